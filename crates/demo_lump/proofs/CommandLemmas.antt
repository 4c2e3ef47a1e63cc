-- Commands one after another.
use Rattle.std.proofs.Common.{◌≡◌, ◌≢◌, ℕ, zero, suc, ◌+◌, ◌*◌, ◌<◌, ◌≤◌, List, [], ◌∷◌, ◌++◌, length, take, drop, slice_index, Some, inl, inr, ◌⊎◌, refl, sym, ap, ◌∙◌, arith, length-append}
use Rattle.std.proofs.lemmas.List.{append_assoc, append-nil, take_at, drop_at, drop-drop, take-append-drop, length-take-le}
use Rattle.std.proofs.Math.Nat.{le-mul_of_pos_right}
use Rattle.std.specs.List.{slice_get}
use Rattle.demo_lump.specs.Command.{IsCommand, command_size, command_of}
use Rattle.demo_lump.specs.Demo.{AreCommands}
use Rattle.demo_lump.specs.Scanning.{commands_of}
use Rattle.demo_lump.specs.Pieces.{NoneBegins}
use Rattle.demo_lump.specs.Scanning.{Follows, Scans}
use Rattle.demo_lump.specs.declared.command.Command.{Command}
use Rattle.demo_lump.proofs.ReadingLemmas.{command_size-some, marker_stops, first-append}

-- one more command behind others
pub AreCommands-last : (version : ℕ) (body front : List ℕ) (commands : List Command) (c : Command)
    → AreCommands version body commands → IsCommand version front c
    → AreCommands version (body ++ front) (commands ++ c ∷ [])
AreCommands-last version body front [] c h is =
    (front, [], ap (λ t. t ++ front) h ∙ sym (append-nil front), is, refl)
AreCommands-last version body front (d ∷ commands) c h is = (
  h.0,
  h.1 ++ front,
  ap (λ t. t ++ front) h.2 ∙ append_assoc h.0 h.1 front,
  h.3,
  AreCommands-last version h.1 front commands c h.4 is,
)

-- the commands are those that a count of them gives
pub AreCommands-is : (version : ℕ) (body rest : List ℕ) (commands : List Command)
    → AreCommands version body commands
    → commands ≡ commands_of version (length commands) (body ++ rest)
AreCommands-is version body rest [] h = refl
AreCommands-is version body rest (c ∷ commands) h =
    let whole : body ++ rest ≡ h.0 ++ (h.1 ++ rest) =
    ap (λ t. t ++ rest) h.2 ∙ append_assoc h.0 h.1 rest in
    let first : take (command_size version) (body ++ rest) ≡ h.0 =
    ap (take (command_size version)) whole
    ∙ take_at h.0 (h.1 ++ rest) (command_size version) h.3.long in
    let next : drop (command_size version) (body ++ rest) ≡ h.1 ++ rest =
    ap (drop (command_size version)) whole
    ∙ drop_at h.0 (h.1 ++ rest) (command_size version) h.3.long in
    ap (λ d. d ∷ commands) (sym h.3.reads ∙ ap (command_of version) (sym first))
    ∙ ap (λ ds. command_of version (take (command_size version) (body ++ rest)) ∷ ds)
    (AreCommands-is version h.1 rest commands h.4
    ∙ ap (commands_of version (length commands)) (sym next))

pub AreCommands-length : (version : ℕ) (body : List ℕ) (commands : List Command)
    → AreCommands version body commands → length body ≡ length commands * command_size version
AreCommands-length version body [] h = ap length h ∙ omega arith
AreCommands-length version body (c ∷ commands) h =
    ap length h.2 ∙ length-append h.0 h.1 ∙ ap (λ n. n + length h.1) h.3.long
    ∙ ap (λ n. command_size version + n) (AreCommands-length version h.1 commands h.4)
    ∙ omega arith

pub length-commands_of : (version n : ℕ) (bytes : List ℕ) → length (commands_of version n bytes) ≡ n
length-commands_of version zero bytes = refl
length-commands_of version (suc n) bytes =
    ap suc (length-commands_of version n (drop (command_size version) bytes))

pub slice_get-commands_of : (version n i : ℕ) (bytes : List ℕ) → i < n
    → slice_get (commands_of version n bytes) i
    ≡ Some
    (command_of version (take (command_size version) (drop (i * command_size version) bytes)))
slice_get-commands_of version zero i bytes h = absurd (omega arith)
slice_get-commands_of version (suc n) zero bytes h =
    let none : 0 * command_size version ≡ 0 = omega arith in
    rw none refl
slice_get-commands_of version (suc n) (suc i) bytes h =
    let size = command_size version in
    let next : size + i * size ≡ suc i * size = omega arith in
    slice_get-commands_of version n i (drop size bytes) (omega arith)
    ∙ ap (λ b. Some (command_of version (take size b)))
    (drop-drop (i * size) size bytes ∙ ap (λ k. drop k bytes) next)

-- nothing was looked at
pub Follows-none : (version : ℕ) (bytes : List ℕ) → Follows version bytes 0 bytes
Follows-none version bytes =
    record { body = []; commands = []; joined = refl; follow = refl; counted = refl }

-- one more command
pub Follows-more : (version : ℕ) (bytes : List ℕ) (count : ℕ) (rest : List ℕ)
    → Follows version bytes count rest → command_size version ≤ length rest
    → slice_index rest 0 ≢ 128
    → Follows version bytes (count + 1) (drop (command_size version) rest)
Follows-more version bytes count rest f fits unmarked =
    let size = command_size version in
    let split : take size rest ++ drop size rest ≡ rest = take-append-drop size rest in
    let long : length (take size rest) ≡ size = length-take-le size rest fits in
    let some : 0 < length (take size rest) = omega (arith, long, (command_size-some version).0) in
    let first : slice_index rest 0 ≡ slice_index (take size rest) 0 =
    ap (λ t. slice_index t 0) (sym split)
    ∙ first-append (take size rest) (drop size rest) some in
    record {
      body = f.body ++ take size rest;
      commands = f.commands ++ command_of version (take size rest) ∷ [];
      joined =
          f.joined ∙ ap (λ t. f.body ++ t) (sym split)
          ∙ sym (append_assoc f.body (take size rest) (drop size rest));
      follow =
          AreCommands-last version f.body (take size rest) f.commands _ f.follow (record {
            long = long;
            unmarked = λ e. unmarked (first ∙ e);
            reads = refl;
          });
      counted =
          length-append f.commands (command_of version (take size rest) ∷ [])
          ∙ ap (λ n. n + 1) f.counted;
    }

-- where no command follows
pub short_stops : (version : ℕ) (rest : List ℕ) → length rest < command_size version
    → NoneBegins (IsCommand version) rest
short_stops version rest short c front more same is =
    omega (arith, ap length same, length-append front more, is.long)

pub marked_stops : (version : ℕ) (rest : List ℕ) → slice_index rest 0 ≡ 128
    → NoneBegins (IsCommand version) rest
marked_stops version [] marked = absurd (omega (arith, marked))
marked_stops version (b ∷ rest) marked = rw marked (marker_stops version rest)

-- what a scan found
pub Scans-of : (version : ℕ) (bytes : List ℕ) (count : ℕ) (rest : List ℕ)
    → Follows version bytes count rest
    → (length rest < command_size version) ⊎ (slice_index rest 0 ≡ 128)
    → Scans version bytes count rest
Scans-of version bytes count rest f (inl short) =
    record { so_far = f; most = short_stops version rest short }
Scans-of version bytes count rest f (inr marked) =
    record { so_far = f; most = marked_stops version rest marked }

pub count_fits : (version : ℕ) (bytes : List ℕ) (count : ℕ) (rest : List ℕ)
    → Follows version bytes count rest → count * command_size version + length rest ≡ length bytes
count_fits version bytes count rest f =
    sym (ap length f.joined ∙ length-append f.body rest
    ∙ ap (λ n. n + length rest) (AreCommands-length version f.body f.commands f.follow
    ∙ ap (λ n. n * command_size version) f.counted))

-- as many commands as there are bytes at most
pub room_for_one : (version : ℕ) (bytes : List ℕ) (count : ℕ) (rest : List ℕ)
    → Follows version bytes count rest → count + length rest ≤ length bytes
room_for_one version bytes count rest f =
    let all = count_fits version bytes count rest f in
    let some : 0 < command_size version = omega (arith, (command_size-some version).0) in
    let more : count ≤ count * command_size version = le-mul_of_pos_right count some in
    omega (arith, all, more)
