use Rattle.std.proofs.Common.{inl, subst, sym}
use Rattle.lens_reports.specs.Files.{IsKnownAs, Known, RefusesKnown}
use Rattle.lens_reports.specs.declared.files.ReadFault.TheVariants.{Refused}
use Rattle.lens_reports.specs.declared.tell.ReportKind.{ReportKind}
use Rattle.lens_engines.specs.declared.object.FileRefusal.{FileRefusal}
use Rattle.std.specs.Prelude.{IfErr, IfOk}
use Rattle.lens_engines.specs.declared.object.FileRefusal.TheVariants.{NoWad, TooLarge, Unopened, Unread}
use Rattle.lens_reports.specs.Run.{LeavesBytes, RefusesFile, StopsRefusal, WritesRefusal}
use Rattle.lens_reports.proofs.TellLemmas.{refused_stopped, refused_told}
use Rattle.lens_reports.proofs.tell.tell_path.Goals as goal

-- a file that isn't read is refused, whatever is asked of it
unread_refused : (known : Known) (word : ReportKind) (refusal : FileRefusal) → RefusesKnown known (Refused refusal) → RefusesFile known word refusal
unread_refused known word (NoWad why) refused = absurd refused
unread_refused known word Unopened refused = refused
unread_refused known word Unread refused = refused
unread_refused known word TooLarge refused = refused

pub returns-in-Err-NoWad-clause-told : goal.returns-in-Err-NoWad-clause-told
returns-in-Err-NoWad-clause-told g c =
    let left = subst (LeavesBytes g.W.Sink.state g.E.Sink.state c.args.asked.word c.args.file.now.path.now c.as_slice.result.now c.args.asked.judging c.args.out.now c.tell_bytes.new.out
    c.args.errors.now c.tell_bytes.new.errors)
    c.in-Err-NoWad.field-0-is c.in-Err-NoWad.ensures.left in
    let bytes = c.as_slice.result.now in
    let is = subst (IsKnownAs (g.S.RunFiles.known c.args.file.now.files.now c.args.file.now.place c.args.file.now.path.now)) (sym c.as_slice.ensures) c.in-Ok.ensures.known in
    let told = rw c.in-Err-NoWad.why-is at c.tell_refusal.ensures.told in
    let at_out = subst (λ o. IfOk c.tell_refusal.result (WritesRefusal c.args.asked.word c.args.file.now.path.now (NoWad c.in-Err-NoWad.why)
    (g.W.Sink.state o) (g.W.Sink.state c.tell_refusal.new.out) (g.E.Sink.state c.tell_bytes.new.errors) (g.E.Sink.state c.tell_refusal.new.errors))) left.1 told in
    let writes = subst (λ e. IfOk c.tell_refusal.result (WritesRefusal c.args.asked.word c.args.file.now.path.now (NoWad c.in-Err-NoWad.why)
    (g.W.Sink.state c.args.out.now) (g.W.Sink.state c.tell_refusal.new.out) (g.E.Sink.state e) (g.E.Sink.state c.tell_refusal.new.errors))) left.2 at_out in
    refused_told (g.S.RunFiles.known c.args.file.now.files.now c.args.file.now.place c.args.file.now.path.now) c.args.asked c.args.file.now.path.now (NoWad c.in-Err-NoWad.why) (g.W.Sink.state c.args.out.now)
    (g.W.Sink.state c.tell_refusal.new.out) (g.E.Sink.state c.args.errors.now) (g.E.Sink.state c.tell_refusal.new.errors) c.tell_refusal.result
    (record { bytes = bytes; are = is.keeps; few = is.few; refuses = left.0 }) writes

pub returns-in-Err-NoWad-clause-stopped : goal.returns-in-Err-NoWad-clause-stopped
returns-in-Err-NoWad-clause-stopped g c =
    let left = subst (LeavesBytes g.W.Sink.state g.E.Sink.state c.args.asked.word c.args.file.now.path.now c.as_slice.result.now c.args.asked.judging c.args.out.now c.tell_bytes.new.out
    c.args.errors.now c.tell_bytes.new.errors)
    c.in-Err-NoWad.field-0-is c.in-Err-NoWad.ensures.left in
    let bytes = c.as_slice.result.now in
    let is = subst (IsKnownAs (g.S.RunFiles.known c.args.file.now.files.now c.args.file.now.place c.args.file.now.path.now)) (sym c.as_slice.ensures) c.in-Ok.ensures.known in
    let stopped = rw c.in-Err-NoWad.why-is at c.tell_refusal.ensures.stopped in
    let at_out = subst (λ o. IfErr c.tell_refusal.result (StopsRefusal c.args.asked.word c.args.file.now.path.now (NoWad c.in-Err-NoWad.why)
    (g.W.Sink.state o) (g.W.Sink.state c.tell_refusal.new.out) (g.E.Sink.state c.tell_bytes.new.errors) (g.E.Sink.state c.tell_refusal.new.errors))) left.1 stopped in
    let stops = subst (λ e. IfErr c.tell_refusal.result (StopsRefusal c.args.asked.word c.args.file.now.path.now (NoWad c.in-Err-NoWad.why)
    (g.W.Sink.state c.args.out.now) (g.W.Sink.state c.tell_refusal.new.out) (g.E.Sink.state e) (g.E.Sink.state c.tell_refusal.new.errors))) left.2 at_out in
    refused_stopped (g.S.RunFiles.known c.args.file.now.files.now c.args.file.now.place c.args.file.now.path.now) c.args.asked c.args.file.now.path.now (NoWad c.in-Err-NoWad.why) (g.W.Sink.state c.args.out.now)
    (g.W.Sink.state c.tell_refusal.new.out) (g.E.Sink.state c.args.errors.now) (g.E.Sink.state c.tell_refusal.new.errors) c.tell_refusal.result
    (record { bytes = bytes; are = is.keeps; few = is.few; refuses = left.0 }) stops

pub returns-in-Err-Refused-clause-told : goal.returns-in-Err-Refused-clause-told
returns-in-Err-Refused-clause-told g c =
    let refused = subst (RefusesKnown (g.S.RunFiles.known c.args.file.now.files.now c.args.file.now.place c.args.file.now.path.now)) c.in-Err-Refused.field-0-is c.in-Err-Refused.ensures.refused in
    let why = unread_refused (g.S.RunFiles.known c.args.file.now.files.now c.args.file.now.place c.args.file.now.path.now) c.args.asked.word c.in-Err-Refused.refusal refused in
    refused_told (g.S.RunFiles.known c.args.file.now.files.now c.args.file.now.place c.args.file.now.path.now) c.args.asked c.args.file.now.path.now c.in-Err-Refused.refusal (g.W.Sink.state c.args.out.now)
    (g.W.Sink.state c.tell_refusal-in-Err-Refused.new.out) (g.E.Sink.state c.args.errors.now) (g.E.Sink.state c.tell_refusal-in-Err-Refused.new.errors) c.tell_refusal-in-Err-Refused.result
    why (rw c.in-Err-Refused.refusal-is at c.tell_refusal-in-Err-Refused.ensures.told)

pub returns-in-Err-Refused-clause-stopped : goal.returns-in-Err-Refused-clause-stopped
returns-in-Err-Refused-clause-stopped g c =
    let refused = subst (RefusesKnown (g.S.RunFiles.known c.args.file.now.files.now c.args.file.now.place c.args.file.now.path.now)) c.in-Err-Refused.field-0-is c.in-Err-Refused.ensures.refused in
    let why = unread_refused (g.S.RunFiles.known c.args.file.now.files.now c.args.file.now.place c.args.file.now.path.now) c.args.asked.word c.in-Err-Refused.refusal refused in
    refused_stopped (g.S.RunFiles.known c.args.file.now.files.now c.args.file.now.place c.args.file.now.path.now) c.args.asked c.args.file.now.path.now c.in-Err-Refused.refusal (g.W.Sink.state c.args.out.now)
    (g.W.Sink.state c.tell_refusal-in-Err-Refused.new.out) (g.E.Sink.state c.args.errors.now) (g.E.Sink.state c.tell_refusal-in-Err-Refused.new.errors) c.tell_refusal-in-Err-Refused.result
    why (rw c.in-Err-Refused.refusal-is at c.tell_refusal-in-Err-Refused.ensures.stopped)

pub returns-in-Err-Output-clause-stopped : goal.returns-in-Err-Output-clause-stopped
returns-in-Err-Output-clause-stopped g c =
    let left = subst (LeavesBytes g.W.Sink.state g.E.Sink.state c.args.asked.word c.args.file.now.path.now c.as_slice.result.now c.args.asked.judging c.args.out.now c.tell_bytes.new.out
    c.args.errors.now c.tell_bytes.new.errors)
    c.in-Err-Output.field-0-is c.in-Err-Output.ensures.left in
    let is = subst (IsKnownAs (g.S.RunFiles.known c.args.file.now.files.now c.args.file.now.place c.args.file.now.path.now)) (sym c.as_slice.ensures) c.in-Ok.ensures.known in
    rw c.in-Err-Output.found-is (inl (record { bytes = c.as_slice.result.now; are = is.keeps; few = is.few; told = left.0; failed = left.1 }))

pub returns-in-Err-Errors-clause-stopped : goal.returns-in-Err-Errors-clause-stopped
returns-in-Err-Errors-clause-stopped g c =
    let left = subst (LeavesBytes g.W.Sink.state g.E.Sink.state c.args.asked.word c.args.file.now.path.now c.as_slice.result.now c.args.asked.judging c.args.out.now c.tell_bytes.new.out
    c.args.errors.now c.tell_bytes.new.errors)
    c.in-Err-Errors.field-0-is c.in-Err-Errors.ensures.left in
    let is = subst (IsKnownAs (g.S.RunFiles.known c.args.file.now.files.now c.args.file.now.place c.args.file.now.path.now)) (sym c.as_slice.ensures) c.in-Ok.ensures.known in
    inl (record { bytes = c.as_slice.result.now; are = is.keeps; few = is.few; stops = left })

pub returns-in-Ok-tell_bytes-clause-told : goal.returns-in-Ok-tell_bytes-clause-told
returns-in-Ok-tell_bytes-clause-told g c =
    let is = subst (IsKnownAs (g.S.RunFiles.known c.args.file.now.files.now c.args.file.now.place c.args.file.now.path.now)) (sym c.as_slice.ensures) c.in-Ok.ensures.known in
    inl (record { bytes = c.as_slice.result.now; are = is.keeps; few = is.few; told = c.in-Ok-tell_bytes.ensures.told })
