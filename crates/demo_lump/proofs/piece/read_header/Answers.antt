use Rattle.std.proofs.Common.{refl}
use Rattle.std.proofs.lemmas.Bool.{false≢true}
use Rattle.std.proofs.lemmas.Result.{err_from_is_err_and}
use Rattle.demo_lump.specs.Header.{IsVersion}
use Rattle.demo_lump.specs.NextPiece.{header_piece}
use Rattle.demo_lump.proofs.ReadsLemmas.{Reads-bad, Reads-bad_byte, Reads-empty, Reads-no_byte, Reads-no_rest, Reads-short, Reads-whole, header_goes_on, header_has_byte, no_players, no_players_refused, no_version, no_version_refused, short_header}
use Rattle.demo_lump.proofs.piece.read_header.Goals as goal

pub returns-in_err-fill-clause-reads : goal.returns-in_err-fill-clause-reads
returns-in_err-fill-clause-reads g c =
    let p =
    err_from_is_err_and c.from_residual-in_err-fill.result
    c.from_residual-in_err-fill.ensures.1 in
    let byte = rw c.in-Some.is at c.in_ok-version.ensures.takes in
    let fill = rw c.byte.ensures.limit at c.in_err-fill.ensures.takes in
    let version : IsVersion c.in-Some.version = c.if-not-is_version.ensures.0 refl in
    rw (p.1, p.2) (Reads-no_rest header_piece header_has_byte 12 c.in-Some.version
    (header_goes_on c.in-Some.version version) byte _ _ fill)

pub returns-then-not-branch-clause-reads : goal.returns-then-not-branch-clause-reads
returns-then-not-branch-clause-reads g c =
    let byte = rw c.in-Some.is at c.in_ok-version.ensures.takes in
    let fill = rw (c.byte.ensures.limit, c.if-not-branch.true) at c.in_ok-fill.ensures.takes in
    let version : IsVersion c.in-Some.version = c.if-not-is_version.ensures.0 refl in
    Reads-short header_piece header_has_byte 12 c.in-Some.version
    (header_goes_on c.in-Some.version version) byte
    _ _ c.fill.auto.buf (λ more few. short_header c.in-Some.version more version few) fill

pub returns-in-Err-clause-reads : goal.returns-in-Err-clause-reads
returns-in-Err-clause-reads g c =
    let byte = rw c.in-Some.is at c.in_ok-version.ensures.takes in
    let fill = rw (c.byte.ensures.limit, c.if-not-branch.false) at c.in_ok-fill.ensures.takes in
    let version : IsVersion c.in-Some.version = c.if-not-is_version.ensures.0 refl in
    let none = c.in-Err.ensures.no_players in
    rw c.in-Err.ensures.fault (Reads-bad header_piece header_has_byte 12 c.in-Some.version
    (header_goes_on c.in-Some.version version) byte
    _ _ (no_players c.in-Some.version c.fill.new.buf c.fill.auto.buf none)
    (no_players_refused c.in-Some.version c.fill.new.buf c.fill.auto.buf version none) fill)

pub returns-in-Ok-clause-reads : goal.returns-in-Ok-clause-reads
returns-in-Ok-clause-reads g c =
    let byte = rw c.in-Some.is at c.in_ok-version.ensures.takes in
    let fill = rw (c.byte.ensures.limit, c.if-not-branch.false) at c.in_ok-fill.ensures.takes in
    let version : IsVersion c.in-Some.version = c.if-not-is_version.ensures.0 refl in
    Reads-whole header_piece header_has_byte 12 c.in-Some.version
    (header_goes_on c.in-Some.version version) byte _ _ c.in-Ok.ensures.ok fill

pub returns-in_err-version-clause-reads : goal.returns-in_err-version-clause-reads
returns-in_err-version-clause-reads g c =
    let p = err_from_is_err_and c.from_residual.result c.from_residual.ensures.1 in
    rw (p.1, p.2)
    (Reads-no_byte header_piece header_has_byte _ c.requires.within c.in_err-version.ensures.takes)

pub returns-in_default-clause-reads : goal.returns-in_default-clause-reads
returns-in_default-clause-reads g c =
    let byte = rw c.in_default.is at c.in_ok-version.ensures.takes in
    Reads-empty header_piece header_has_byte _ refl byte

pub returns-then-not-is_version-clause-reads : goal.returns-then-not-is_version-clause-reads
returns-then-not-is_version-clause-reads g c =
    let byte = rw c.in-Some.is at c.in_ok-version.ensures.takes in
    let other : ¬ IsVersion c.in-Some.version =
    λ version. false≢true (c.if-not-is_version.ensures.1 version) in
    Reads-bad_byte header_piece header_has_byte c.in-Some.version _
    (no_version c.in-Some.version other) (no_version_refused c.in-Some.version other) byte

pub read_fields-requires-clause-version : goal.read_fields-requires-clause-version
read_fields-requires-clause-version g c = c.if-not-is_version.ensures.0 refl
