-- Above which numbers no later seg or ssector is found.
use Rattle.std.proofs.Common.{◌≡◌, ℕ, ◌<◌, inl, inr, refl, length, Option, Some, None}
use Rattle.std.specs.Prelude.{IsSomeAnd, option_and_then}
use Rattle.std.specs.List.{slice_get}
use Rattle.std.proofs.lemmas.Option.{slice_get_within}
use Rattle.map_level.proofs.BoundLemmas.{some_within}
use Rattle.node_lumps.specs.Later.{Later}
use Rattle.node_lumps.specs.declared.records.LaterSeg.{LaterSeg}
use Rattle.node_lumps.specs.declared.records.SegLine.{SegLine}
use Rattle.later_levels.specs.LaterLevel.{LaterLevel}
use Rattle.later_levels.specs.SegFaults.{line_in}
use Rattle.later_levels.specs.TableBounds.{SegFound, SsectorFound}

-- a seg of whose line something holds is there
of_found : (later : Later) (i : ℕ) (P : SegLine → Type 0) (o : Option LaterSeg) → slice_get later.segs i ≡ o
    → IsSomeAnd (option_and_then (λ seg. seg.line) o) P → i < length later.segs
of_found later i P None is h = absurd h
of_found later i P (Some seg) is h = slice_get_within later.segs i seg is

line_within : (later : Later) (i : ℕ) (P : SegLine → Type 0) → IsSomeAnd (line_in later i) P → i < length later.segs
line_within later i P h = of_found later i P (slice_get later.segs i) refl h

pub seg_there : (one : LaterLevel) (i : ℕ) → SegFound one i → i < length one.later.segs
seg_there one i (inl h) = some_within one.later.segs i _ h
seg_there one i (inr (inl h)) = line_within one.later i _ h
seg_there one i (inr (inr (inl h))) = line_within one.later i _ h
seg_there one i (inr (inr (inr h))) = line_within one.later i _ h

pub ssector_there : (later : Later) (t : ℕ) → SsectorFound later t → t < length later.ssectors
ssector_there later t (inl h) = some_within later.ssectors t _ h
ssector_there later t (inr h) = some_within later.ssectors t _ h
