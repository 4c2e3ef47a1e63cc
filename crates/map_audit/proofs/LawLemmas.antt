-- The laws of this crate.
use Rattle.std.proofs.Common.{◌≡◌, ℕ, ◌+◌, ◌<◌, ◌≤◌, inl, inr, refl, sym, subst, arith}
use Rattle.std.proofs.lemmas.Bool.{ltb-true}
use Rattle.map_level.specs.Level.{Level, level_of, lump_of}
use Rattle.map_level.specs.Findings.{rank}
use Rattle.map_level.specs.Opening.{IsLevel}
use Rattle.map_level.specs.declared.finding.Code.{Code}
use Rattle.map_level.specs.declared.finding.Code.TheVariants.{N8, N9, N10}
use Rattle.map_tables.specs.TableFaults.{TableHolds}
use Rattle.map_level.specs.declared.reading.Reading.TheVariants.{Signed, Wide}
use Rattle.map_level.proofs.LevelLemmas.{IsLevel-one}
use Rattle.map_tree.specs.Sound.{IsSound}
use Rattle.map_tree.proofs.LawLemmas.{law_faultless}
use Rattle.map_audit.specs.Readings.{KeepsSound}
use Rattle.map_audit.specs.Laws.{SoundIsNoFault, WideKeepsSound}
use Rattle.map_audit.proofs.FileLemmas.{lump_bytes}
use Rattle.map_audit.proofs.ReadingLemmas.{wide_keeps_sound}

-- a code of REJECT or BLOCKMAP stands from N8 to N10
record IsTableRank (p : ℕ) : Type 0 where
  pub from : 25 ≤ p
  pub to : p < 28

table_place : (level : Level) (code : Code) (i : ℕ) → TableHolds level code i
    → IsTableRank (rank code)
table_place level N8 i h = record { from = omega arith; to = omega arith }
table_place level N9 i h = record { from = omega arith; to = omega arith }
table_place level N10 i h = record { from = omega arith; to = omega arith }
table_place level _ i h = absurd h

pub law_sound_is_no_fault : SoundIsNoFault
law_sound_is_no_fault level = (
  (λ sound code i fault holds. elim holds [
    | inl link ↦ (law_faultless level).0 sound code i fault (inl link)
    | inr other ↦ elim other [
      | inl node ↦ (law_faultless level).0 sound code i fault (inr node)
      | inr table ↦
          let at =
          table_place level code i table in let below =
          ltb-true (rank code) 18 fault in omega (arith, at.from, below)
    ]
  ]),
  (λ none. (law_faultless level).1 (λ code i fault holds. none code i fault (elim holds [
    | inl link ↦ inl link
    | inr node ↦ inr (inl node)
  ]))),
)

pub law_wide_keeps_sound : WideKeepsSound
law_wide_keeps_sound files name signed wide are is_signed is_wide sound =
    let label = signed.label in
    let here = is_signed.there in
    let found = here.found in
    let lumps = here.lumps in
    let other : IsLevel files name Wide (level_of label Wide found lumps) = record {
      wins = is_signed.wins;
      there = record { found = found; named = here.named; lumps = lumps; stand = here.stand; is = refl };
    } in
    let same : level_of label Wide found lumps ≡ wide =
    IsLevel-one files name Wide _ _ other is_wide in
    let bytes =
    lump_bytes files are (label + 2) (lump_of lumps 2)
    (here.stand.each 2 (omega arith) (omega arith)) in
    let kept = wide_keeps_sound label found lumps bytes (subst IsSound here.is sound) in
    subst (λ (level : Level). KeepsSound level wide) (sym here.is)
    (subst (λ (level : Level). KeepsSound (level_of label Signed found lumps) level) same kept)
