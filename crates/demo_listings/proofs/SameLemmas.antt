-- Demos are the same exactly where their bytes are, from the version to the marker.
use Rattle.std.proofs.Common.{◌≡◌, ℕ, zero, suc, ◌+◌, ◌%◌, ◌<◌, ◌==◌, Bool, true, false, if◌then◌else◌, Option, Some, None, List, [], ◌∷◌, ◌++◌, length, map, drop, slice_index, refl, sym, ap, ◌∙◌, inl, inr, subst, arith, unwrap_or}
use Rattle.std.proofs.lemmas.Bool.{cases_lt, true≢false}
use Rattle.std.proofs.lemmas.Bool.Decides.{nat_tests}
use Rattle.std.proofs.lemmas.Int.{ints}
use Rattle.std.proofs.lemmas.Grind.{same_number_lists}
use Rattle.std.proofs.lemmas.List.{append_assoc}
use Rattle.std.proofs.lemmas.Option.{same_Some}
use Rattle.demo_lump.specs.Command.{long_command_of, short_command_of, signed8}
use Rattle.demo_lump.specs.declared.command.Command.{Command}
use Rattle.later_demos.specs.Command.{AreCommands, IsCommand, actions_at, command_of, command_size, loads, saves}
use Rattle.later_demos.specs.Demo.{Demo, IsDemo, IsFrame, IsKeyFrame}
use Rattle.later_demos.specs.Laws.{OneReading}
use Rattle.later_demos.specs.Layout.{layout_of}
use Rattle.later_demos.specs.Refusal.{form_of}
use Rattle.later_demos.specs.Wrapper.{has_actions, has_key_frame}
use Rattle.later_demos.specs.declared.command.Actions.{Actions}
use Rattle.later_demos.specs.declared.command.CommandForm.{CommandForm}
use Rattle.later_demos.specs.declared.command.LaterCommand.{LaterCommand}
use Rattle.later_demos.specs.declared.layout.Layout.{Layout}
use Rattle.later_demos.specs.declared.wrapper.Wrapper.{Wrapper}
use Rattle.later_demos.specs.declared.wrapper.Wrapper.TheVariants.{Dsda, PrUm}
use Rattle.le_rec.proofs.NumberLemmas.{bytes32-unsigned32}
use Rattle.le_rec.specs.Bytes.{AreBytes}
use Rattle.le_rec.specs.Number.{bytes32}
use Rattle.demo_listings.proofs.ByteLemmas.{back_bytes, front_bytes, high_one, low_one}
use Rattle.demo_listings.specs.Differences.{AreSame, SameWrappers, flags_of, frame_of, meaning_of, wrapper_text}
use Rattle.demo_listings.specs.Laws.{SameBytes, played_bytes}
use Rattle.demo_listings.specs.declared.meaning.Compared.TheVariants.{Everything}
use Rattle.demo_listings.specs.declared.meaning.Meaning.{Meaning}

-- bytes agree at the first so many places
abbrev Agree : ℕ → List ℕ → List ℕ → Type 0
Agree n xs ys = (i : ℕ) → i < n → slice_index xs i ≡ slice_index ys i

-- bytes of the same numbers are the same
signed_one : (a b : ℕ) → a < 256 → b < 256 → signed8 a ≡ signed8 b → a ≡ b
unfolding signed8
signed_one a b small also same = grind (arith, ints, nat_tests)

long_agrees : (xs ys : List ℕ) → AreBytes xs → AreBytes ys → long_command_of xs ≡ long_command_of ys → Agree 5 xs ys
long_agrees xs ys are also same zero small = signed_one _ _ (are.each 0) (also.each 0) (ap (λ (c : Command). c.forward) same)
long_agrees xs ys are also same (suc zero) small = signed_one _ _ (are.each 1) (also.each 1) (ap (λ (c : Command). c.side) same)
long_agrees xs ys are also same (suc (suc zero)) small =
    low_one _ _ _ _ (are.each 2) (are.each 3) (also.each 2) (also.each 3) (ap (λ (c : Command). c.turn) same)
long_agrees xs ys are also same (suc (suc (suc zero))) small =
    high_one _ _ _ _ (are.each 2) (are.each 3) (also.each 2) (also.each 3) (ap (λ (c : Command). c.turn) same)
long_agrees xs ys are also same (suc (suc (suc (suc zero)))) small = ap (λ (c : Command). c.buttons) same
long_agrees xs ys are also same (suc (suc (suc (suc (suc i))))) small = absurd (omega (arith, small))

short_agrees : (xs ys : List ℕ) → AreBytes xs → AreBytes ys → short_command_of xs ≡ short_command_of ys → Agree 4 xs ys
short_agrees xs ys are also same zero small = signed_one _ _ (are.each 0) (also.each 0) (ap (λ (c : Command). c.forward) same)
short_agrees xs ys are also same (suc zero) small = signed_one _ _ (are.each 1) (also.each 1) (ap (λ (c : Command). c.side) same)
short_agrees xs ys are also same (suc (suc zero)) small = ap (λ (c : Command). c.turn) same
short_agrees xs ys are also same (suc (suc (suc zero))) small = ap (λ (c : Command). c.buttons) same
short_agrees xs ys are also same (suc (suc (suc (suc i)))) small = absurd (omega (arith, small))

ticcmd_agrees : (long : Bool) (xs ys : List ℕ) → AreBytes xs → AreBytes ys
    → (if long then long_command_of xs else short_command_of xs) ≡ (if long then long_command_of ys else short_command_of ys)
    → Agree (if long then 5 else 4) xs ys
ticcmd_agrees true xs ys are also same = long_agrees xs ys are also same
ticcmd_agrees false xs ys are also same = short_agrees xs ys are also same

-- a slot that is there
slot_is : (n slot : ℕ) → n ≡ 1 → (if n == 1 then Some slot else None) ≡ Some slot
slot_is n slot is = subst (λ (m : ℕ). (if m == 1 then Some slot else None) ≡ Some slot) (sym is) refl

-- bytes of the same actions, which stand at a place, agree up to the end of the slots
module _ (n : ℕ) (xs ys : List ℕ) (same : actions_at xs n ≡ actions_at ys n) where
  byte_same : slice_index xs n ≡ slice_index ys n
  byte_same = ap (λ (a : Actions). a.actions) same

  save_same : saves (slice_index xs n) ≡ 1 → slice_index xs (n + 1) ≡ slice_index ys (n + 1)
  save_same is =
      same_Some _ _ (sym (slot_is (saves (slice_index xs n)) (slice_index xs (n + 1)) is)
      ∙ ap (λ (a : Actions). a.save) same
      ∙ slot_is (saves (slice_index ys n)) (slice_index ys (n + 1)) (ap saves (sym byte_same) ∙ is))

  load_same : loads (slice_index xs n) ≡ 1
      → slice_index xs (n + 1 + saves (slice_index xs n)) ≡ slice_index ys (n + 1 + saves (slice_index xs n))
  load_same is =
      same_Some _ _ (sym (slot_is (loads (slice_index xs n)) (slice_index xs (n + 1 + saves (slice_index xs n))) is)
      ∙ ap (λ (a : Actions). a.load) same
      ∙ slot_is (loads (slice_index ys n)) (slice_index ys (n + 1 + saves (slice_index ys n))) (ap loads (sym byte_same) ∙ is))
      ∙ ap (λ (b : ℕ). slice_index ys (n + 1 + saves b)) (sym byte_same)

  actions_agree : Agree n xs ys → Agree (n + 1 + saves (slice_index xs n) + loads (slice_index xs n)) xs ys
  actions_agree before i small = elim (cases_lt i n) [
    | inl below ↦ before i below
    | inr from ↦ elim (cases_lt n i) [
      | inr at ↦
          let is : n ≡ i = omega (arith, from, at) in
          subst (λ (k : ℕ). slice_index xs k ≡ slice_index ys k) is byte_same
      | inl behind ↦ elim (cases_lt (n + saves (slice_index xs n)) i) [
        | inr first ↦
            let one : saves (slice_index xs n) ≡ 1 = omega (arith, behind, first) in
            let is : n + 1 ≡ i = omega (arith, behind, first, one) in
            subst (λ (k : ℕ). slice_index xs k ≡ slice_index ys k) is (save_same one)
        | inl second ↦
            let one : loads (slice_index xs n) ≡ 1 = omega (arith, small, second) in
            let is : n + 1 + saves (slice_index xs n) ≡ i = omega (arith, small, second, one) in
            subst (λ (k : ℕ). slice_index xs k ≡ slice_index ys k) is (load_same one)
      ]
    ]
  ]

-- bytes of the same command are the same
record IsAlike (form : CommandForm) (xs ys : List ℕ) : Type 0 where
  long : command_size form xs ≡ command_size form ys
  each : Agree (command_size form xs) xs ys

alike : (long actions : Bool) (xs ys : List ℕ) → AreBytes xs → AreBytes ys
    → command_of (record { long = long; actions = actions }) xs ≡ command_of (record { long = long; actions = actions }) ys
    → IsAlike (record { long = long; actions = actions }) xs ys
unfolding command_of command_size
alike long false xs ys are also same = record {
  long = refl;
  each = ticcmd_agrees long xs ys are also (ap (λ (c : LaterCommand). c.ticcmd) same);
}
alike long true xs ys are also same =
    let n : ℕ = if long then 5 else 4 in
    let acts : actions_at xs n ≡ actions_at ys n = same_Some _ _ (ap (λ (c : LaterCommand). c.actions) same) in
    record {
      long = ap (λ (b : ℕ). n + 1 + saves b + loads b) (byte_same n xs ys acts);
      each = actions_agree n xs ys acts (ticcmd_agrees long xs ys are also (ap (λ (c : LaterCommand). c.ticcmd) same));
    }

command_one : (form : CommandForm) (xs ys : List ℕ) (c : LaterCommand) → AreBytes xs → AreBytes ys → IsCommand form xs c → IsCommand form ys c → xs ≡ ys
command_one form xs ys c are also is other =
    let same = alike form.long form.actions xs ys are also (is.reads ∙ sym other.reads) in
    same_number_lists xs ys (is.long ∙ same.long ∙ sym other.long)
    (subst (λ (n : ℕ). Agree n xs ys) (sym is.long) same.each)

-- what is compared of a command is all of it
command_of_meaning : Meaning → LaterCommand
command_of_meaning m = record {
  ticcmd = record { forward = m.forward; side = m.side; turn = m.turn; buttons = m.buttons };
  actions = m.actions;
}

head_or : Meaning → List Meaning → Meaning
head_or m [] = m
head_or m (n ∷ ns) = n

commands_one : (form : CommandForm) (xs ys : List ℕ) (a b : Demo) (cs ds : List LaterCommand) → AreBytes xs → AreBytes ys
    → AreCommands form xs cs → AreCommands form ys ds
    → map (meaning_of Everything a) cs ≡ map (meaning_of Everything b) ds → xs ≡ ys
unfolding command_of_meaning head_or
commands_one form xs ys a b [] [] are also is other same = is ∙ sym other
commands_one form xs ys a b [] (d ∷ ds) are also is other same = absurd (omega (arith, ap length same))
commands_one form xs ys a b (c ∷ cs) [] are also is other same = absurd (omega (arith, ap length same))
commands_one form xs ys a b (c ∷ cs) (d ∷ ds) are also (x, behind, joined, first, rest) (y, left, put, second, others) same =
    let one : c ≡ d = ap command_of_meaning (ap (head_or (meaning_of Everything a c)) same) in
    let here = subst AreBytes joined are in
    let there = subst AreBytes put also in
    joined
    ∙ ap (λ (b : List ℕ). b ++ behind) (command_one form x y d (front_bytes x behind here) (front_bytes y left there) (subst (IsCommand form x) one first) second)
    ∙ ap (λ (b : List ℕ). y ++ b) (commands_one form behind left a b cs ds (back_bytes x behind here) (back_bytes y left there) rest others (ap (drop 1) same))
    ∙ sym put

-- bytes of the same key frame
frame_bytes : (frame kept : List ℕ) → IsFrame frame kept → AreBytes frame → frame ≡ bytes32 (length kept) ++ kept
frame_bytes [] kept is are = absurd (omega (arith, is.long))
frame_bytes (a ∷ []) kept is are = absurd (omega (arith, is.long))
frame_bytes (a ∷ b ∷ []) kept is are = absurd (omega (arith, is.long))
frame_bytes (a ∷ b ∷ c ∷ []) kept is are = absurd (omega (arith, is.long))
frame_bytes (a ∷ b ∷ c ∷ d ∷ frame) kept is are =
    ap (λ (bs : List ℕ). bs ++ frame) (sym (ap bytes32 (sym is.counted) ∙ bytes32-unsigned32 a b c d (are.each 0) (are.each 1) (are.each 2) (are.each 3)))
    ∙ ap (λ (bs : List ℕ). bytes32 (length kept) ++ bs) is.reads

-- wrappers that say the same: commands and key frames lie the same behind them
actions_same : (a b : Option Wrapper) → wrapper_text a ≡ wrapper_text b → has_actions a ≡ has_actions b
actions_same None None kind = refl
actions_same None (Some (Dsda d)) kind =
    let other : 110 ≡ 68 = ap (λ (t : List ℕ). slice_index t 1) kind in absurd (omega (arith, other))
actions_same None (Some (PrUm m)) kind = refl
actions_same (Some (Dsda c)) None kind =
    let other : 68 ≡ 110 = ap (λ (t : List ℕ). slice_index t 1) kind in absurd (omega (arith, other))
actions_same (Some (Dsda c)) (Some (Dsda d)) kind = refl
actions_same (Some (Dsda c)) (Some (PrUm m)) kind =
    let other : 68 ≡ 80 = ap (λ (t : List ℕ). slice_index t 1) kind in absurd (omega (arith, other))
actions_same (Some (PrUm l)) None kind = refl
actions_same (Some (PrUm l)) (Some (Dsda d)) kind =
    let other : 80 ≡ 68 = ap (λ (t : List ℕ). slice_index t 1) kind in absurd (omega (arith, other))
actions_same (Some (PrUm l)) (Some (PrUm m)) kind = refl

flags_tell : (w : Option Wrapper) → has_key_frame w ≡ (flags_of w % 2 == 1)
flags_tell None = refl
flags_tell (Some (Dsda dsda)) = refl
flags_tell (Some (PrUm name)) = refl

frames_same : (a b : Option Wrapper) → flags_of a ≡ flags_of b → has_key_frame a ≡ has_key_frame b
frames_same a b same = flags_tell a ∙ ap (λ (n : ℕ). n % 2 == 1) same ∙ sym (flags_tell b)

frame_one : (v w : Option Wrapper) (xs ys : List ℕ) (k l : Option (List ℕ)) → has_key_frame v ≡ has_key_frame w
    → IsKeyFrame v xs k → IsKeyFrame w ys l → unwrap_or k [] ≡ unwrap_or l [] → AreBytes xs → AreBytes ys → xs ≡ ys
frame_one v w xs ys None None has (none, empty) (also, bare) same are those = empty ∙ sym bare
frame_one v w xs ys None (Some l) has (none, empty) (some, is) same are those = absurd (true≢false (sym some ∙ sym has ∙ none))
frame_one v w xs ys (Some k) None has (some, is) (none, bare) same are those = absurd (true≢false (sym some ∙ has ∙ none))
frame_one v w xs ys (Some k) (Some l) has (some, is) (also, other) same are those =
    frame_bytes xs k is are ∙ ap (λ (t : List ℕ). bytes32 (length t) ++ t) same ∙ sym (frame_bytes ys l other those)

form_same : (a b : Demo) → a.layout ≡ b.layout → SameWrappers a b → form_of a.layout a.wrapper ≡ form_of b.layout b.wrapper
form_same a b layout same =
    ap (λ (l : Layout). form_of l a.wrapper) layout
    ∙ ap (λ (acts : Bool). record { long = b.layout.long; actions = acts }) (actions_same a.wrapper b.wrapper same.kind)

all_played : (h f b m : List ℕ) → (h ++ (f ++ b)) ++ m ≡ h ++ (f ++ (b ++ m))
all_played h f b m = append_assoc h (f ++ b) m ∙ ap (λ (t : List ℕ). h ++ t) (append_assoc f b m)

same_meaning : (a b : Demo) (cs : List LaterCommand) → map (meaning_of Everything a) cs ≡ map (meaning_of Everything b) cs
same_meaning a b [] = refl
same_meaning a b (c ∷ cs) = ap (λ (ms : List Meaning). meaning_of Everything a c ∷ ms) (same_meaning a b cs)

module _ (of_a of_b : List ℕ) (a b : Demo) (is : IsDemo of_a a) (other : IsDemo of_b b) where
  bytes_are : AreBytes of_a → AreBytes of_b → AreSame Everything a b → played_bytes of_a a is ≡ played_bytes of_b b other
  bytes_are are also (heads, commands) =
      let layout : a.layout ≡ b.layout =
      same_Some _ _ (sym is.begins.version ∙ ap (λ (h : List ℕ). layout_of (slice_index h 0)) heads.header ∙ other.begins.version) in
      let form = form_same a b layout heads.wrappers in
      let left_a = back_bytes a.header (is.frame ++ (is.body ++ 128 ∷ a.rest))
      (back_bytes is.front (a.header ++ (is.frame ++ (is.body ++ 128 ∷ a.rest))) (subst AreBytes is.joined are)) in
      let left_b = back_bytes b.header (other.frame ++ (other.body ++ 128 ∷ b.rest))
      (back_bytes other.front (b.header ++ (other.frame ++ (other.body ++ 128 ∷ b.rest))) (subst AreBytes other.joined also)) in
      let frame : is.frame ≡ other.frame =
      frame_one a.wrapper b.wrapper is.frame other.frame a.key_frame b.key_frame (frames_same a.wrapper b.wrapper heads.wrappers.flags)
      is.framed other.framed heads.frame
      (front_bytes is.frame (is.body ++ 128 ∷ a.rest) left_a) (front_bytes other.frame (other.body ++ 128 ∷ b.rest) left_b) in
      let body : is.body ≡ other.body =
      commands_one (form_of b.layout b.wrapper) is.body other.body a b a.commands b.commands
      (front_bytes is.body (128 ∷ a.rest) (back_bytes is.frame (is.body ++ 128 ∷ a.rest) left_a))
      (front_bytes other.body (128 ∷ b.rest) (back_bytes other.frame (other.body ++ 128 ∷ b.rest) left_b))
      (subst (λ (f : CommandForm). AreCommands f is.body a.commands) form is.follow) other.follow commands in
      ap (λ (h : List ℕ). h ++ (is.frame ++ is.body)) heads.header
      ∙ ap (λ (f : List ℕ). b.header ++ (f ++ is.body)) frame
      ∙ ap (λ (t : List ℕ). b.header ++ (other.frame ++ t)) body

  -- what would be read of the bytes of B in the wrapper of A
  demos_are : OneReading → SameWrappers a b → played_bytes of_a a is ≡ played_bytes of_b b other → AreSame Everything a b
  demos_are one_reading wrappers same =
      let whole : List ℕ = is.front ++ (a.header ++ (is.frame ++ (is.body ++ 128 ∷ []))) in
      let kind = actions_same b.wrapper a.wrapper (sym wrappers.kind) in
      let form : form_of b.layout b.wrapper ≡ form_of b.layout a.wrapper =
      ap (λ (acts : Bool). record { long = b.layout.long; actions = acts }) kind in
      let of_first : IsDemo whole (record a { rest = [] }) = record {
        front = is.front;
        frame = is.frame;
        body = is.body;
        joined = refl;
        wrapped = is.wrapped;
        begins = is.begins;
        framed = is.framed;
        follow = is.follow;
      } in
      let of_second : IsDemo whole (record b { wrapper = a.wrapper; rest = [] }) = record {
        front = is.front;
        frame = other.frame;
        body = other.body;
        joined = ap (λ (t : List ℕ). is.front ++ t)
            (sym (all_played a.header is.frame is.body (128 ∷ [])) ∙ ap (λ (t : List ℕ). t ++ 128 ∷ []) same
            ∙ all_played b.header other.frame other.body (128 ∷ []));
        wrapped = is.wrapped;
        begins = other.begins;
        framed = rewrapped b.wrapper a.wrapper other.frame b.key_frame (frames_same b.wrapper a.wrapper (sym wrappers.flags)) other.framed;
        follow = subst (λ (f : CommandForm). AreCommands f other.body b.commands) form other.follow;
      } in
      let one = one_reading whole (record a { rest = [] }) (record b { wrapper = a.wrapper; rest = [] }) of_first of_second in (
        record { wrappers = wrappers; header = ap (λ (d : Demo). d.header) one; frame = ap (λ (d : Demo). frame_of d) one },
        ap (λ (d : Demo). map (meaning_of Everything a) d.commands) one ∙ same_meaning a b b.commands,
      )
    where
      rewrapped : (v w : Option Wrapper) (frame : List ℕ) (kept : Option (List ℕ)) → has_key_frame v ≡ has_key_frame w
          → IsKeyFrame v frame kept → IsKeyFrame w frame kept
      rewrapped v w frame None has (none, empty) = (sym has ∙ none, empty)
      rewrapped v w frame (Some kept) has (some, is) = (sym has ∙ some, is)

pub same_bytes : OneReading → SameBytes
same_bytes one_reading of_a of_b a b is other are also = (
  λ same. (same.0.wrappers, bytes_are of_a of_b a b is other are also same),
  λ told. demos_are of_a of_b a b is other one_reading told.0 told.1,
)
