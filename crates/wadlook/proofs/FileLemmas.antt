-- The refusal for the first file that isn't read.
use Rattle.std.proofs.Common.{ℕ, ◌+◌, ◌<◌, List, length, Option, Some, None, IfSome, inl, inr, refl, arith}
use Rattle.line_io.specs.Storage.{RefusesFiles, RefusesNext}
use Rattle.line_io.specs.declared.input.TheConstants.{MAX_READ}
use Rattle.line_io.specs.declared.storage.FirstUnread.{FirstUnread}
use Rattle.line_io.specs.declared.storage.StorageFault.{StorageFault}
use Rattle.line_io.specs.declared.storage.StorageFault.TheVariants as read
use Rattle.line_io.specs.Storage.{IsReached, total_length}
use Rattle.wadlook.specs.Files.{IsNumbered, RefusesPaths, refusal_at, refusal_of}

-- what is too long goes past the most with those before it, as it does alone
is_over : (files : List (List ℕ)) (held : Option (List ℕ)) → RefusesNext MAX_READ files held read.TooLong → IfSome held (λ file. MAX_READ < total_length files + length file)
is_over files None over = over
is_over files (Some file) (inl large) = omega (arith, large)
is_over files (Some file) (inr over) = over

pub paths_refused : (held : List ℕ → Option (List ℕ)) (paths : List (List ℕ)) (first : FirstUnread) → RefusesFiles MAX_READ held paths first → RefusesPaths held paths (refusal_of first)
paths_refused held paths first refuses = go first.fault refuses.why
  where
    at : IsNumbered held paths (first.place + 1)
    at = record { place = first.place; number = refl; reached = refuses.reached }

    go : (fault : StorageFault) → RefusesNext MAX_READ refuses.reached.files (held refuses.reached.path) fault → RefusesPaths held paths (refusal_at first.place fault)
    go read.Unopened why = at
    go read.Unread why = at
    go read.TooLong why = record { at = at; over = is_over refuses.reached.files (held refuses.reached.path) why }
    go read.Memory why = tt
