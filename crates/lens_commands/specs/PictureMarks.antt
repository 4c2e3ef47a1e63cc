-- Which warnings a picture marks (ours), by how levels are judged.
use Rattle.std.specs.Prelude.{not, Option, Some, None}
use Rattle.level_codes.specs.Sets.{has}
use Rattle.level_codes.specs.declared.set.CodeSet.{CodeSet}
use Rattle.level_codes.specs.declared.code.ReportCode.TheVariants as report
use Rattle.level_codes.specs.declared.code.WarningCode.TheVariants.{W1, W2, W3, W6, W11, W14, W15, W16, W17, W21}
use Rattle.lens_engines.specs.declared.judging.Warnings.{Warnings}
use Rattle.lens_engines.specs.declared.judging.Warnings.TheVariants.{Unasked, Told}
use Rattle.map_picture.specs.declared.warned.MarkedWarnings.{MarkedWarnings}

-- those of the codes that aren't ignored
abbrev pub marks_without : CodeSet → MarkedWarnings
marks_without ignored = record {
  unclosed = not (has ignored (report.Warning W1));
  bare = not (has ignored (report.Warning W2));
  in_void = not (has ignored (report.Warning W3));
  twins = not (has ignored (report.Warning W6));
  unknown_things = not (has ignored (report.Warning W11));
  unknown_specials = not (has ignored (report.Warning W14));
  zero_tags = not (has ignored (report.Warning W15));
  crossings = not (has ignored (report.Warning W16));
  effects = not (has ignored (report.Warning W17));
  odd_things = not (has ignored (report.Warning W21));
}

-- none, where warnings aren't asked for
abbrev pub marks_by : Warnings → CodeSet → Option MarkedWarnings
marks_by Unasked ignored = None
marks_by Told ignored = Some (marks_without ignored)
