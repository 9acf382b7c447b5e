use Rattle.std.proofs.Common.{◌∙◌, sym, arith}
use Rattle.jm_archive.proofs.VersionLaws.{version_is, version_past, version_none}
use Rattle.jm_archive.proofs.cuts.version_of.Goals as goal
use Rattle.jm_archive.proofs.cuts.version_of.Goals.{else-version-ge9-via-then-version-ge9+else-version-release, else-version-ge9-via-else-version-ge9}

pub returns-in_err-version : goal.returns-in_err-version
returns-in_err-version c =
    c.from_residual.ensures ∙ sym (version_none c.args.release c.args.digits.now (omega (arith, c.ranges.release)) c.in_err-version.ensures.none)

pub returns-then-version-release : goal.returns-then-version-release
returns-then-version-release c =
    sym (version_is c.args.release c.in_ok-version.version c.args.digits.now (omega (arith, c.ranges.release))
    c.in_ok-version.ensures.some c.if-version-ge9.true c.if-version-release.true)

pub returns-else-version-ge9 : goal.returns-else-version-ge9
returns-else-version-ge9 c =
    let n = c.in_ok-version.version in
    let past = version_past c.args.release n c.args.digits.now (omega (arith, c.ranges.release)) c.in_ok-version.ensures.fits
    c.in_ok-version.ensures.some
    in
    elim c.else-version-ge9.branch [
      | else-version-ge9-via-then-version-ge9+else-version-release w ↦ sym (past (λ from to. omega (arith, w.if-version-release.false)))
      | else-version-ge9-via-else-version-ge9 w ↦ sym (past (λ from to. omega (arith, w.if-version-ge9.false)))
    ]
