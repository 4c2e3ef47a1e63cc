-- The lines of a picture, up to the linedefs and from the findings on.
use Rattle.std.proofs.Common.{◌≡◌, ℕ, List, ◌++◌, Result, Ok, Err, sym, ap, ◌∙◌, subst}
use Rattle.std.proofs.lemmas.List.Concat.{flat_map-append}
use Rattle.le_rec.specs.Sink.{SinkState}
use Rattle.line_io.proofs.WriteLemmas.{Writes-stop, Writes-then}
use Rattle.line_io.specs.Writes.{Writes}
use Rattle.line_io.specs.declared.fault.IoFault.{IoFault}
use Rattle.map_audit.specs.Findings.{AuditHolds}
use Rattle.map_cells.specs.Frame.{Frame}
use Rattle.map_level.specs.Findings.{AreFindings}
use Rattle.map_level.specs.Level.{Level}
use Rattle.map_level.specs.declared.finding.Finding.{Finding}
use Rattle.map_warnings.specs.declared.warning.Warning.{Warning}
use Rattle.map_picture.specs.Counts.{CountsFindings, counts_of}
use Rattle.map_picture.specs.Head.{title_of}
use Rattle.lens_texts.specs.Parts.{joined}
use Rattle.map_picture.specs.Picture.{WritesPicture, found_parts, map_parts, map_text, picture_text}
use Rattle.map_picture.specs.declared.finding_counts.FindingCounts.{FindingCounts}
use Rattle.map_picture.specs.declared.sectors.SectorCells.{SectorCells}

module _ (level : Level) (counts : FindingCounts) (frame : Frame) (size : ℕ) (shown : List SectorCells) (marked : List Warning) where
  splits : (found : List Finding) → counts ≡ counts_of found
      → picture_text level found frame size shown marked ≡ map_text level counts frame size shown ++ joined (found_parts level found marked)
  splits found is =
      ap (λ (c : FindingCounts). joined (map_parts level (title_of level c) frame size shown ++ found_parts level found marked)) (sym is)
      ∙ flat_map-append (λ part. part) (map_parts level (title_of level counts) frame size shown) (found_parts level found marked)

  -- it stopped up to the linedefs
  pub picture_stops : {T U : Type 0} {before after : SinkState} {e : IoFault} (its : Level) → its ≡ level → CountsFindings (AuditHolds level) counts
      → Writes {T = T} before after (map_text its counts frame size shown) (Err e) → WritesPicture {T = U} level frame size shown marked before after (Err e)
  picture_stops {T = T} {U = U} {before = before} {after = after} {e = e} its same told stopped = record {
    found = told.found;
    audited = told.are;
    writes =
        subst (λ (text : List ℕ). Writes {T = U} before after text (Err e)) (sym (splits told.found told.counted))
        (Writes-stop (joined (found_parts level told.found marked))
        (subst (λ (l : Level). Writes {T = T} before after (map_text l counts frame size shown) (Err e)) same stopped));
  }

  -- it came to the findings
  pub picture_ends : {T U : Type 0} {before between after : SinkState} {x : U} {result : Result T IoFault} (its : Level) → its ≡ level
      → CountsFindings (AuditHolds level) counts → Writes before between (map_text its counts frame size shown) (Ok x)
      → ((found : List Finding) → AreFindings (AuditHolds level) found → Writes between after (joined (found_parts level found marked)) result)
      → WritesPicture level frame size shown marked before after result
  picture_ends {before = before} {between = between} {after = after} {x = x} {result = result} its same told wrote rest =
      let whole = subst (λ (l : Level). Writes before between (map_text l counts frame size shown) (Ok x)) same wrote in
      record {
        found = told.found;
        audited = told.are;
        writes =
            subst (λ (text : List ℕ). Writes before after text result) (sym (splits told.found told.counted))
            (Writes-then before between after (map_text level counts frame size shown) result whole.takes.whole (rest told.found told.are));
      }
