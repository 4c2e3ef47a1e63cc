-- How a run of `wadlook`'s words ends in a page, the status for it, and why there is no answer, in words (ours).
use Rattle.std.specs.Prelude.{ℕ, Bool, List, [], codes, Result, Ok, Err}
use Rattle.look_engines.specs.FaultText.{fault_text}
use Rattle.look_engines.specs.Outcome.{status_of}
use Rattle.look_engines.specs.declared.fault.RunFault.{RunFault}
use Rattle.wad_page.specs.declared.refusal.PageRefusal.{PageRefusal}
use Rattle.wad_page.specs.declared.refusal.PageRefusal.TheVariants.{Usage, Run}

-- the end of a run, as that of the page
abbrev pub page_end : Result Bool RunFault → Result Bool PageRefusal
page_end (Ok clean) = Ok clean
page_end (Err fault) = Err (Run fault)

-- that of the run, and 2 where the words were refused
abbrev pub exit_status_of : Result Bool PageRefusal → ℕ
exit_status_of (Ok clean) = status_of (Ok clean)
exit_status_of (Err (Run fault)) = status_of (Err fault)
exit_status_of (Err Usage) = 2

-- why there is no answer, in words: those of the program
abbrev pub refusal_text : PageRefusal → List ℕ
refusal_text Usage = codes "usage"
refusal_text (Run fault) = fault_text fault

-- that, and nothing where there is an answer
abbrev pub reason_text : Result Bool PageRefusal → List ℕ
reason_text (Ok clean) = []
reason_text (Err refusal) = refusal_text refusal
