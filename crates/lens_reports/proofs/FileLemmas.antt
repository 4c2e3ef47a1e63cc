-- Why a file of a run isn't read.
use Rattle.lens_engines.specs.declared.object.FileRefusal.TheVariants.{Unopened, Unread, TooLarge, NoWad}
use Rattle.lens_reports.specs.Files.{IsAnswered, IsOpenedFault}
use Rattle.lens_reports.specs.declared.files.ReadFault.{ReadFault}
use Rattle.lens_reports.specs.declared.files.ReadFault.TheVariants.{Refused, Memory}

-- the fault of a file that was opened is any storage's
pub answered_from_opened : (refused : Type 0) (fault : ReadFault) → IsOpenedFault fault → IsAnswered refused fault
answered_from_opened refused (Refused Unopened) opened = absurd opened
answered_from_opened refused (Refused Unread) opened = tt
answered_from_opened refused (Refused TooLarge) opened = tt
answered_from_opened refused (Refused (NoWad why)) opened = tt
answered_from_opened refused Memory opened = tt
