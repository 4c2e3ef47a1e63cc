-- The status with which the program ends (ours).
use Rattle.std.specs.Prelude.{ℕ, List, codes, Option, Some, None, Result, Ok, Err}
use Rattle.lens_engines.specs.declared.verdict.Verdict.{Verdict}
use Rattle.lens_engines.specs.declared.verdict.Verdict.TheVariants.{Clean, Unjudged, Faulty}
use Rattle.lens_reports.specs.declared.end.End.{End}
use Rattle.lens_reports.specs.declared.end.End.TheVariants as end

-- the message for standard error: none where it was written before, can't be written, or has no reader
abbrev pub end_message : End → Option (List ℕ)
end_message end.Memory = Some (codes "no memory left")
end_message end.Output = Some (codes "standard output can't be written")
end_message (end.Closed found) = None
end_message end.Errors = None
end_message end.Refused = None
end_message end.Told = None

-- by what was found: a fault goes before what isn't judged
abbrev pub status_of : Verdict → ℕ
status_of Clean = 0
status_of Faulty = 1
status_of Unjudged = 2

-- by how the run ended: a lack of memory goes first, then a failed end, then the verdict; a reader that has gone counts as no failure
abbrev pub exit_status_of : Result Verdict End → ℕ
exit_status_of (Ok verdict) = status_of verdict
exit_status_of (Err (end.Closed verdict)) = status_of verdict
exit_status_of (Err end.Told) = 0
exit_status_of (Err end.Output) = 2
exit_status_of (Err end.Errors) = 2
exit_status_of (Err end.Refused) = 2
exit_status_of (Err end.Memory) = 3
