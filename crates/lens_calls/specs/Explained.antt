-- What `explain` does (ours).
use Rattle.std.specs.Prelude.{◌≡◌, Option}
use Rattle.std.specs.Io.KnownBytes.{Appends}
use Rattle.le_rec.specs.Sink.{SinkState}
use Rattle.lens_engines.specs.declared.verdict.Verdict.{Verdict}
use Rattle.lens_engines.specs.declared.verdict.Verdict.TheVariants.{Clean}
use Rattle.lens_texts.specs.Explain.{explained_text}
use Rattle.level_codes.specs.declared.code.ReportCode.{ReportCode}

-- what a code means was written, or the list of all
pub record Explains (code : Option ReportCode) (out out' : SinkState) (verdict : Verdict) : Type 0 where
  pub took : Appends out.taken out'.taken (explained_text code)
  pub says : verdict ≡ Clean
