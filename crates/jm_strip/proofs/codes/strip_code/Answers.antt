use Rattle.std.proofs.Common.{ℕ, Ok, subst, sym, ap, ◌++◌, ◌∙◌, arith}
use Rattle.jm_class.specs.Classes.{sized_text, code_text}
use Rattle.jm_class.specs.ClassLayout.{code_fields}
use Rattle.jm_class.specs.Layouts.{reading}
use Rattle.jm_class.specs.declared.class.ClassFault.TheVariants.{Short, CodeLength}
use Rattle.jm_class.proofs.ReadingLaws.{IsBytes}
use Rattle.jm_strip.proofs.Shorter.{inner-length, code-fits, length_behind, length_put}
use Rattle.jm_class.proofs.WholeReadings.{code-stop, code-rest, code-all}
use Rattle.jm_strip.specs.Strip.{strip_code}
use Rattle.jm_strip.specs.Walks.{shown}
use Rattle.jm_strip.proofs.Shown.{saw, stopped, walk_stop}
use Rattle.jm_strip.proofs.codes.strip_code.Goals as goal

pub returns-in_err-strip_parts : goal.returns-in_err-strip_parts
returns-in_err-strip_parts c =
    let pool = c.args.pool.now in
    let stop = code-stop pool c.args.cursor.now c.number32.new.cursor c.in_ok-inner.inner c.inner.new.cursor c.in_ok-size.size
    c.in_ok-size.ensures c.in_ok-inner.ensures in
    walk_stop _ _ _ c.in_err-strip_parts.field-0.0 c.from_residual-in_err-strip_parts.result c.strip_parts.new.cursor
    c.inner.new.cursor c.from_residual-in_err-strip_parts.ensures.1 c.in_err-strip_parts.ensures
    (λ fault stops.
    let first = stopped (λ a. c.put32.new.text.items ++ code_text (strip_code pool a))
    (reading (λ at. CodeLength c.place.result) (code_fields pool) c.in_ok-inner.inner) fault stops in
    ap (shown (λ a. c.args.text.now.items ++ sized_text (code_text (strip_code pool a)))) (stop fault (rw (sym c.place.ensures) first)))

pub returns-then-len-ne0 : goal.returns-then-len-ne0
returns-then-len-ne0 c =
    let pool = c.args.pool.now in
    let rest = code-rest pool c.args.cursor.now c.number32.new.cursor c.in_ok-inner.inner c.inner.new.cursor c.in_ok-size.size
    c.in_ok-size.ensures c.in_ok-inner.ensures in
    let got = saw (λ a. c.put32.new.text.items ++ code_text (strip_code pool a)) (reading (λ at. CodeLength c.place.result) (code_fields pool)
    c.in_ok-inner.inner) c.strip_parts.new.text.items c.strip_parts.new.cursor c.in_ok-strip_parts.ensures in
    rw c.place.ensures
    (ap (shown (λ a. c.args.text.now.items ++ sized_text (code_text (strip_code pool a)))) (rest got.first c.strip_parts.new.cursor
    c.len.result (rw (sym c.place.ensures) got.is) c.len.ensures c.if-len-ne0.true))

pub overflow_cast-len : goal.overflow_cast-len
overflow_cast-len c =
    let pool = c.args.pool.now in
    let short = λ (at : ℕ). CodeLength c.place.result in
    let got = saw (λ a. c.put32.new.text.items ++ code_text (strip_code pool a)) (reading short (code_fields pool) c.in_ok-inner.inner)
    c.strip_parts.new.text.items c.strip_parts.new.cursor c.in_ok-strip_parts.ensures in
    let bytes = subst IsBytes c.rest.ensures c.are_bytes.ensures in
    let part = inner-length Short c.in_ok-size.size c.number32.new.cursor c.in_ok-inner.inner c.inner.new.cursor c.in_ok-inner.ensures in
    let fits = code-fits short pool c.in_ok-inner.inner c.strip_parts.new.cursor got.first c.in_ok-size.size bytes got.is part in
    let size = length_behind c.args.text.now.items c.put32.new.text.items (code_text (strip_code pool got.first))
    c.strip_parts.new.text.items c.len-at.result c.len-2.result c.in_ok-put32.ensures got.same (c.len-at.ensures
    ∙ c.args.text.now.ok.0) (c.len-2.ensures ∙ c.strip_parts.new.text.ok.0) in
    omega (arith, fits, size)

pub returns : goal.returns
returns c =
    let pool = c.args.pool.now in
    let all = code-all pool c.args.cursor.now c.number32.new.cursor c.in_ok-inner.inner c.inner.new.cursor c.in_ok-size.size
    c.in_ok-size.ensures c.in_ok-inner.ensures in
    let got = saw (λ a. c.put32.new.text.items ++ code_text (strip_code pool a)) (reading (λ at. CodeLength c.place.result) (code_fields pool)
    c.in_ok-inner.inner) c.strip_parts.new.text.items c.strip_parts.new.cursor c.in_ok-strip_parts.ensures in
    let put = length_put c.args.text.now.items c.put32.new.text.items (code_text (strip_code pool got.first))
    c.strip_parts.new.text.items c.len-at.result c.len-2.result c.in_ok-put32.ensures got.same (c.len-at.ensures
    ∙ c.args.text.now.ok.0) (c.len-2.ensures ∙ c.strip_parts.new.text.ok.0) c.patch32.new.text.items
    c.patch32.ensures in
    ap (shown (λ a. c.args.text.now.items ++ sized_text (code_text (strip_code pool a)))) (all got.first c.strip_parts.new.cursor
    c.len.result (rw (sym c.place.ensures) got.is) c.len.ensures c.if-len-ne0.false)
    ∙ ap (λ t. Ok (t, c.inner.new.cursor)) put
