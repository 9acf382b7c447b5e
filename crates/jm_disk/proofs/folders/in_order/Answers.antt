use Rattle.std.proofs.Common.{◌≡◌, IsUtf8}
use Rattle.std.proofs.lemmas.Str.{IsUtf8-string_bytes}
use Rattle.jm_disk.proofs.Last.{rising_none, texts_none, texts_push}
use Rattle.jm_disk.proofs.folders.in_order.Goals as goal

pub loop-name-init : goal.loop-name-init
loop-name-init c = record {
  can = tt;
  ends = tt;
  rising = rising_none c.new-rising.result c.new-rising.ensures;
  texts =
      texts_none c.new-rising.result c.new-rising.ensures;
}

pub loop-name-preserved : goal.loop-name-preserved
loop-name-preserved c =
    let put = c.in_ok-push.ensures.ok in
    let names = c.as_slice.ensures in
    let name : c.as_bytes.result.now ≡ c.from_vec.result = rw (c.from_vec.ensures, c.into_bytes.ensures.value) c.as_bytes.ensures.value in
    let above = c.is_above.ensures c.if-not-is_above.false (rw names c.loop-name.invariant.rising) in
    let text : IsUtf8 c.from_vec.result = rw (c.from_vec.ensures, c.into_bytes.ensures.value) (IsUtf8-string_bytes c.in-Some.name) in
    record {
      can = tt;
      ends = tt;
      rising = rw (put, ← name, ← names) above;
      texts =
          texts_push c.push.result c.loop-name.rising c.push.new.self c.from_vec.result text c.push.ensures.ok c.push.ensures.err
          c.loop-name.invariant.texts;
    }
