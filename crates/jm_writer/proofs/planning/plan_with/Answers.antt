use Rattle.std.proofs.Common.{rules, ℕ, ◌≡◌, ◌∙◌, ap, ◌++◌, map, ◌+◌, ◌<◌, ◌≤◌, ◌^◌, All, Err, length, sym, subst, refl, arith}
use Rattle.std.proofs.lemmas.List.{length-map}
use Rattle.jm_bytes.specs.Results.{IfAnswered}
use Rattle.jm_form.specs.Greedy.{word_of}
use Rattle.jm_form.specs.Strings.{section_of}
use Rattle.jm_form.specs.Layout.{all_sized, holds_size, names_of, sized, sized_node}
use Rattle.jm_writer.specs.Drafts.{Plans}
use Rattle.jm_writer.specs.Laid.{CanLay}
use Rattle.jm_writer.specs.declared.draft.Draft.{Draft}
use Rattle.jm_writer.specs.Laying.{IsDrawn, IsTable}
use Rattle.jm_writer.specs.Parts.{IsOfEntries, index_bytes}
use Rattle.jm_writer.proofs.LaidSizes.{nodes_fit}
use Rattle.jm_writer.proofs.PlanLaws.{count_sized, entries_fit, plan_drafted, plan_large}
use Rattle.jm_writer.proofs.planning.plan_with.Goals as goal

pub returns-in_err-laid : goal.returns-in_err-laid
returns-in_err-laid c =
    let pool = c.args.pool.now in
    let e = c.add_nodes.new.entries in
    let nodes = c.requires.nodes in
    let of_entries = subst (λ ns. IsOfEntries (map sized pool ++ map sized_node ns) e) nodes (c.in_ok-add_nodes.ensures (map sized pool)
    c.in_ok-entries.ensures) in
    let tabled = subst (λ ns. IsTable ns c.in_ok-table.table) c.as_slice.ensures c.in_ok-table.ensures in
    let is : c.from_residual-in_err-laid.result ≡ Err c.in_err-laid.field-0.0 = search rules in
    let all = count_sized pool c.args.nodes.now nodes in
    let size = c.len.ensures.len in
    let few : length (all_sized pool) ≤ 1048576 = omega (arith, all, size, c.requires.few) in
    subst (IfAnswered (Plans c.args.order pool)) (sym is)
    (plan_large c.args.order pool e c.in_ok-table.table c.in_err-laid.field-0.0 of_entries tabled c.in_err-laid.ensures
    c.requires.apart few)

pub returns : goal.returns
returns c =
    let pool = c.args.pool.now in
    let e = c.add_nodes.new.entries in
    let table = c.in_ok-table.table in
    let laid = c.in_ok-laid.laid in
    let order = c.args.order in
    let nodes = c.requires.nodes in
    let of_entries = subst (λ ns. IsOfEntries (map sized pool ++ map sized_node ns) e) nodes (c.in_ok-add_nodes.ensures (map sized pool)
    c.in_ok-entries.ensures) in
    let tabled = subst (λ ns. IsTable ns table) c.as_slice.ensures c.in_ok-table.ensures in
    let all = count_sized pool c.args.nodes.now nodes in
    let size = c.len.ensures.len in
    let few : length (all_sized pool) ≤ 1048576 = omega (arith, all, size, c.requires.few) in
    let names = ap length of_entries.names ∙ length-map (all_sized pool) (λ e. e.name) in
    let long : c.len.result + length c.args.nodes.now ≡ length e.names = omega (arith, names, all, size) in
    let can : CanLay pool = record {
      differ = c.len.ensures.differ;
      plain = record {
        sound = c.requires.sound;
        resources =
            c.requires.resources;
        apart = c.requires.apart;
      };
    } in
    let draft : Draft = record {
      order = order;
      index = c.in_ok-index.index;
      tail = c.in_ok-tail.tail;
      length = laid.length;
      slots = table.length;
    } in
    let drawn : IsDrawn order e table laid c.args.nodes.now draft = record {
      order = refl;
      index = c.in_ok-index.ensures ∙ ap (λ (n : ℕ). index_bytes order n (map word_of table.redirects) laid.locations.places.items
          laid.locations.text.items (section_of laid.strings)) long;
      tail = c.in_ok-tail.ensures;
      size = refl;
      slots = refl;
    } in
    plan_drafted order pool e table laid c.args.nodes.now draft can of_entries
    tabled c.in_ok-laid.ensures drawn nodes c.requires.apart few

pub lay_out-requires-clause-entries : goal.lay_out-requires-clause-entries
lay_out-requires-clause-entries c =
    let pool = c.args.pool.now in
    let e = c.add_nodes.new.entries in
    let nodes = c.requires.nodes in
    let of_entries = subst (λ ns. IsOfEntries (map sized pool ++ map sized_node ns) e) nodes (c.in_ok-add_nodes.ensures (map sized pool)
    c.in_ok-entries.ensures) in
    let all = count_sized pool c.args.nodes.now nodes in
    let size = c.len.ensures.len in
    let few : length (all_sized pool) ≤ 1048576 = omega (arith, all, size, c.requires.few) in
    entries_fit pool e of_entries few (record {
      differ = c.len.ensures.differ;
      plain =
          record { sound = c.requires.sound; resources = c.requires.resources; apart = c.requires.apart };
    })

pub add_nodes-requires : goal.add_nodes-requires
add_nodes-requires c =
    let pool = c.args.pool.now in
    let nodes = c.requires.nodes in
    let count = ap length nodes in
    let names = length-map pool (λ p. p.0) in
    let size = c.len.ensures.len in
    subst (All (λ node. holds_size node.holds < 2 ^ 64)) (sym nodes)
    (nodes_fit (names_of pool) (omega (arith, count, names, size, c.requires.few)))

pub index_bytes-requires-clause-slots : goal.index_bytes-requires-clause-slots
index_bytes-requires-clause-slots c =
    let pool = c.args.pool.now in
    let e = c.add_nodes.new.entries in
    let nodes = c.requires.nodes in
    let of_entries = subst (λ ns. IsOfEntries (map sized pool ++ map sized_node ns) e) nodes (c.in_ok-add_nodes.ensures (map sized pool)
    c.in_ok-entries.ensures) in
    let tabled = subst (λ ns. IsTable ns c.in_ok-table.table) c.as_slice.ensures c.in_ok-table.ensures in
    let all = count_sized pool c.args.nodes.now nodes in
    let size = c.len.ensures.len in
    let names = ap length of_entries.names ∙ length-map (all_sized pool) (λ e. e.name) in
    let same = ap length tabled.redirects in
    omega (arith, same, tabled.whole, tabled.few, names, all, size, c.requires.few)

pub index_bytes-requires-clause-locations : goal.index_bytes-requires-clause-locations
index_bytes-requires-clause-locations c =
    let laid = c.in_ok-laid.ensures in
    let text = ap length laid.text in
    omega (arith, text, laid.size, laid.within)
