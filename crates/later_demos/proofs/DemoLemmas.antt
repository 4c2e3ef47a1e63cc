-- Bytes have one reading as a demo, or one reason refuses them, and not both.
use Rattle.std.proofs.Common.{◌≡◌, ◌≢◌, ℕ, ◌-◌, ◌≤◌, ◌<◌, ◌↔◌, Option, Some, None, List, ◌∷◌, ◌++◌, length, take, drop, slice_index, Result, Ok, Err, refl, sym, ap, ◌∙◌, arith, length-append, length-drop, subst}
use Rattle.std.proofs.lemmas.Bool.{cond-false, ne_eqb}
use Rattle.std.proofs.lemmas.List.{drop_at, length-take-le, take-append-drop}
use Rattle.std.proofs.lemmas.Option.{same_Some}
use Rattle.demo_lump.specs.Header.{players_in}
use Rattle.demo_lump.specs.Pieces.{NoneBegins}
use Rattle.later_demos.specs.Command.{AreCommands, IsCommand, commands_in, left_in}
use Rattle.later_demos.specs.Demo.{Demo, IsDemo, IsKeyFrame, IsWrapper}
use Rattle.later_demos.specs.Header.{IsHeader, header_refusal, options_in, players_at, players_of}
use Rattle.later_demos.specs.Layout.{layout_of}
use Rattle.later_demos.specs.Numbers.{or_else}
use Rattle.later_demos.specs.Refusal.{IsCutAt, RefusesBy, RefusesDemo, behind_frame, behind_front, behind_header, behind_wrapper, first_refusal, form_of, frame_of, header_of, inner_refusal, key_frame_refusal, layout_in}
use Rattle.later_demos.specs.Wrapper.{size_of, wrapper_of, wrapper_refusal, wrapper_size}
use Rattle.later_demos.specs.declared.command.CommandForm.{CommandForm}
use Rattle.later_demos.specs.declared.command.LaterCommand.{LaterCommand}
use Rattle.later_demos.specs.declared.fault.LaterFault.{LaterFault}
use Rattle.later_demos.specs.declared.fault.LaterFault.TheVariants.{NoMarker}
use Rattle.later_demos.specs.declared.layout.Layout.{Layout}
use Rattle.later_demos.specs.declared.wrapper.Wrapper.{Wrapper}
use Rattle.later_demos.proofs.CommandPartLemmas.{commands_joined, commands_one, left_stops, marker_stops, none_stops, stops_none}
use Rattle.later_demos.proofs.FrameLemmas.{frames, unframes}
use Rattle.later_demos.proofs.FrontLemmas.{left_index, passed}
use Rattle.later_demos.proofs.HeaderLemmas.{allowed_left, header_joined, header_left, heads, more_left, some_header, version_left}
use Rattle.later_demos.proofs.LayoutLemmas.{layout_sound, not_255}
use Rattle.later_demos.proofs.WrapperLemmas.{unwraps, wraps}

-- reasons one after another
or_else_none : {A : Type 0} (first other : Option A) → or_else first other ≡ None
    → (first ≡ None) × (other ≡ None)
or_else_none None other h = (refl, h)
or_else_none (Some x) other h = absurd (let f : ⊥ = cc in f)

first_none : (bytes : List ℕ) → 0 < length bytes → wrapper_refusal bytes ≡ None
    → inner_refusal (wrapper_of bytes) (behind_wrapper bytes) ≡ None → first_refusal bytes ≡ None
unfolding first_refusal
first_none bytes some outer inner =
    cond-false _ _ _ (ne_eqb (length bytes) 0 (λ e. omega (arith, e)))
    ∙ ap (λ o. or_else o (inner_refusal (wrapper_of bytes) (behind_wrapper bytes))) outer ∙ inner

inner_none : (wrapper : Option Wrapper) (bytes : List ℕ) → 0 < length bytes
    → header_refusal (size_of wrapper) bytes ≡ None
    → key_frame_refusal wrapper (behind_header bytes) ≡ None → inner_refusal wrapper bytes ≡ None
unfolding inner_refusal
inner_none wrapper bytes some header frame =
    cond-false _ _ _ (ne_eqb (length bytes) 0 (λ e. omega (arith, e)))
    ∙ ap (λ o. or_else o (key_frame_refusal wrapper (behind_header bytes))) header ∙ frame

pub first_passed : (bytes : List ℕ) → first_refusal bytes ≡ None
    → (wrapper_refusal bytes ≡ None) × (inner_refusal (wrapper_of bytes) (behind_wrapper bytes) ≡ None)
unfolding first_refusal
first_passed bytes h = or_else_none _ _ (passed _ _ _ h).1

pub inner_passed : (wrapper : Option Wrapper) (bytes : List ℕ) → inner_refusal wrapper bytes ≡ None
    → (header_refusal (size_of wrapper) bytes ≡ None)
    × (key_frame_refusal wrapper (behind_header bytes) ≡ None)
unfolding inner_refusal
inner_passed wrapper bytes h = or_else_none _ _ (passed _ _ _ h).1

-- a wrapper, a header and a key frame in front of other bytes, and what the whole says of them
module _ (wrapper : Option Wrapper) (layout : Layout) (header : List ℕ) (kept : Option (List ℕ))
    (front frame third : List ℕ) (wrapped : IsWrapper front wrapper) (begins : IsHeader header layout)
    (framed : IsKeyFrame wrapper frame kept) where
  abbrev whole_second : List ℕ
  whole_second = frame ++ third

  abbrev whole_first : List ℕ
  whole_first = header ++ whole_second

  abbrev whole : List ℕ
  whole = front ++ whole_first

  whole_some : 0 < length whole_first
  whole_some = omega (arith, length-append header whole_second, some_header header whole_second layout begins)

  whole_other : slice_index whole_first 0 ≢ 255
  whole_other =
      let same = left_index header whole_second 0 (some_header header whole_second layout begins) in
      λ e. not_255 _ layout begins.version (sym same ∙ e)

  whole_outer : (wrapper_of whole ≡ wrapper) × (wrapper_refusal whole ≡ None) × (length front ≡ size_of wrapper)
  whole_outer = wraps front whole_first wrapper wrapped whole_some whole_other

  whole_behind : behind_wrapper whole ≡ whole_first
  unfolding behind_wrapper
  whole_behind = drop_at front whole_first _ (whole_outer.2 ∙ ap size_of (sym whole_outer.0))

  whole_left : behind_header (behind_wrapper whole) ≡ whole_second
  whole_left = ap behind_header whole_behind ∙ more_left header whole_second layout begins

  whole_inner : inner_refusal wrapper whole_first ≡ None
  whole_inner =
      inner_none wrapper whole_first whole_some (allowed_left header whole_second layout begins (size_of wrapper))
      (ap (key_frame_refusal wrapper) (more_left header whole_second layout begins)
      ∙ (frames wrapper frame third kept framed).0)

  pub whole_allowed : first_refusal whole ≡ None
  whole_allowed =
      first_none whole (omega (arith, whole_some, length-append front whole_first)) whole_outer.1
      (ap (λ w. inner_refusal w (behind_wrapper whole)) whole_outer.0 ∙ ap (inner_refusal wrapper) whole_behind ∙ whole_inner)

  pub whole_wrapped : wrapper_of whole ≡ wrapper
  whole_wrapped = whole_outer.0

  pub whole_version : layout_in whole ≡ Some layout
  whole_version = ap (λ b. layout_of (slice_index b 0)) whole_behind ∙ version_left header whole_second layout begins

  whole_header : header_of (behind_wrapper whole) ≡ header
  whole_header = ap header_of whole_behind ∙ header_left header whole_second layout begins

  whole_frame : frame_of wrapper (behind_header (behind_wrapper whole)) ≡ kept
  whole_frame = ap (frame_of wrapper) whole_left ∙ (frames wrapper frame third kept framed).1

  pub whole_commands : behind_front whole ≡ third
  unfolding behind_front
  whole_commands =
      ap (λ w. behind_frame w (behind_header (behind_wrapper whole))) whole_outer.0
      ∙ ap (behind_frame wrapper) whole_left ∙ (frames wrapper frame third kept framed).2

-- what bytes say of a demo that they are, place by place
pub record IsPlaced (bytes : List ℕ) (demo : Demo) : Type 0 where
  pub allowed : first_refusal bytes ≡ None
  pub wrapped : wrapper_of bytes ≡ demo.wrapper
  pub version : layout_in bytes ≡ Some demo.layout
  pub header : header_of (behind_wrapper bytes) ≡ demo.header
  pub frame : frame_of demo.wrapper (behind_header (behind_wrapper bytes)) ≡ demo.key_frame
  pub commands : commands_in (form_of demo.layout demo.wrapper) (behind_front bytes) ≡ demo.commands
  pub left : left_in (form_of demo.layout demo.wrapper) (behind_front bytes) ≡ 128 ∷ demo.rest

pub placed : (bytes : List ℕ) (demo : Demo) → IsDemo bytes demo → IsPlaced bytes demo
placed bytes demo is =
    let third = is.body ++ 128 ∷ demo.rest in
    let form = form_of demo.layout demo.wrapper in
    let scan = commands_one form is.body (128 ∷ demo.rest) demo.commands is.follow (marker_stops form demo.rest) in
    let commands = whole_commands demo.wrapper demo.layout demo.header demo.key_frame is.front is.frame third is.wrapped is.begins is.framed in
    subst (λ b. IsPlaced b demo) (sym is.joined) (record {
      allowed = whole_allowed demo.wrapper demo.layout demo.header demo.key_frame is.front is.frame third is.wrapped is.begins is.framed;
      wrapped = whole_wrapped demo.wrapper demo.layout demo.header demo.key_frame is.front is.frame third is.wrapped is.begins is.framed;
      version = whole_version demo.wrapper demo.layout demo.header demo.key_frame is.front is.frame third is.wrapped is.begins is.framed;
      header = whole_header demo.wrapper demo.layout demo.header demo.key_frame is.front is.frame third is.wrapped is.begins is.framed;
      frame = whole_frame demo.wrapper demo.layout demo.header demo.key_frame is.front is.frame third is.wrapped is.begins is.framed;
      commands = ap (commands_in form) commands ∙ scan.0;
      left = ap (left_in form) commands ∙ scan.1;
    })

-- demos of the same parts are the same
pub same_demos : (demo other : Demo) → demo.wrapper ≡ other.wrapper → demo.layout ≡ other.layout
    → demo.header ≡ other.header → demo.key_frame ≡ other.key_frame
    → demo.commands ≡ other.commands → demo.rest ≡ other.rest → demo ≡ other
same_demos demo other wrapper layout header frame commands rest =
    ap (λ (w : Option Wrapper). record demo { wrapper = w }) wrapper
    ∙ ap (λ (l : Layout). record demo { wrapper = other.wrapper; layout = l }) layout
    ∙ ap (λ (h : List ℕ). record demo { wrapper = other.wrapper; layout = other.layout; header = h }) header
    ∙ ap (λ (k : Option (List ℕ)). record other { key_frame = k; commands = demo.commands; rest = demo.rest }) frame
    ∙ ap (λ (cs : List LaterCommand). record other { commands = cs; rest = demo.rest }) commands
    ∙ ap (λ (r : List ℕ). record other { rest = r }) rest

pub IsDemo-one : (bytes : List ℕ) (demo other : Demo) → IsDemo bytes demo → IsDemo bytes other
    → demo ≡ other
IsDemo-one bytes demo other is also =
    let p = placed bytes demo is in
    let q = placed bytes other also in
    let wrapper : demo.wrapper ≡ other.wrapper = sym p.wrapped ∙ q.wrapped in
    let layout : demo.layout ≡ other.layout = same_Some _ _ (sym p.version ∙ q.version) in
    let form : form_of demo.layout demo.wrapper ≡ form_of other.layout other.wrapper =
    ap (λ l. form_of l demo.wrapper) layout ∙ ap (form_of other.layout) wrapper in
    let left : 128 ∷ demo.rest ≡ 128 ∷ other.rest =
    sym p.left ∙ ap (λ f. left_in f (behind_front bytes)) form ∙ q.left in
    same_demos demo other wrapper layout (sym p.header ∙ q.header)
    (sym p.frame ∙ ap (λ w. frame_of w (behind_header (behind_wrapper bytes))) wrapper ∙ q.frame)
    (sym p.commands ∙ ap (λ f. commands_in f (behind_front bytes)) form ∙ q.commands)
    (ap (drop 1) left)

-- where bytes are cut, what is left of them is that behind the most commands
cut_left : (bytes : List ℕ) (place : ℕ) (layout : Layout) (cut : IsCutAt bytes place)
    → layout_in bytes ≡ Some layout
    → left_in (form_of layout (wrapper_of bytes)) (behind_front bytes) ≡ cut.rest
cut_left bytes place layout cut version =
    let same : layout ≡ cut.layout = same_Some _ _ (sym version ∙ cut.version) in
    let form = form_of cut.layout (wrapper_of bytes) in
    ap (λ l. left_in (form_of l (wrapper_of bytes)) (behind_front bytes)) same
    ∙ ap (left_in form) cut.joined
    ∙ (commands_one form cut.body cut.rest cut.commands cut.follow (none_stops form cut.rest cut.most)).1

-- a fault where no reason holds before the commands
cut_of : (bytes : List ℕ) (fault : LaterFault) → RefusesBy bytes None fault
    → (place : ℕ) × (fault ≡ NoMarker place) × IsCutAt bytes place
cut_of bytes (NoMarker place) r = (place, refl, r)
cut_of bytes _ r = absurd r

pub IsDemo-not_refused : (bytes : List ℕ) (demo : Demo) (fault : LaterFault) → IsDemo bytes demo
    → RefusesDemo bytes fault → ⊥
IsDemo-not_refused bytes demo fault is refused =
    let p = placed bytes demo is in
    let cut = cut_of bytes fault (subst (λ o. RefusesBy bytes o fault) p.allowed refused) in
    let left = cut_left bytes cut.0 demo.layout cut.2 p.version in
    cut.2.unmarked demo.rest
    (sym left ∙ ap (λ w. left_in (form_of demo.layout w) (behind_front bytes)) p.wrapped ∙ p.left)

cuts_one : (bytes : List ℕ) (place other : ℕ) → IsCutAt bytes place → IsCutAt bytes other → place ≡ other
cuts_one bytes place other cut also =
    let rest : cut.rest ≡ also.rest =
    sym (cut_left bytes place cut.layout cut cut.version) ∙ cut_left bytes other cut.layout also cut.version in
    omega (arith, cut.placed, also.placed, ap length rest)

refuses_one : (bytes : List ℕ) (first : Option LaterFault) (fault other : LaterFault)
    → RefusesBy bytes first fault → RefusesBy bytes first other → fault ≡ other
refuses_one bytes (Some first) fault other r s = sym r ∙ s
refuses_one bytes None fault other r s =
    let cut = cut_of bytes fault r in
    let also = cut_of bytes other s in
    cut.1 ∙ ap NoMarker (cuts_one bytes cut.0 also.0 cut.2 also.2) ∙ sym also.1

pub RefusesDemo-one : (bytes : List ℕ) (fault other : LaterFault) → RefusesDemo bytes fault
    → RefusesDemo bytes other → fault ≡ other
RefusesDemo-one bytes fault other = refuses_one bytes (first_refusal bytes) fault other

-- what a demo, or a reason, says of each demo and each reason
module _ (bytes : List ℕ) where
  pub only_demo : (found : Demo) → IsDemo bytes found → (demo : Demo)
      → (◌≡◌ {A = Result Demo LaterFault} (Ok found) (Ok demo)) ↔ IsDemo bytes demo
  only_demo found is demo = (
    λ e. let same : found ≡ demo = cc in subst (IsDemo bytes) same is,
    λ h. ap (λ d. Ok d) (IsDemo-one bytes found demo is h),
  )

  pub no_fault : (found : Demo) → IsDemo bytes found → (fault : LaterFault)
      → (◌≡◌ {A = Result Demo LaterFault} (Ok found) (Err fault)) ↔ RefusesDemo bytes fault
  no_fault found is fault = (
    λ e. absurd (let f : ⊥ = cc in f),
    λ r. absurd (IsDemo-not_refused bytes found fault is r),
  )

  pub no_demo : (fault : LaterFault) → RefusesDemo bytes fault → (demo : Demo)
      → (◌≡◌ {A = Result Demo LaterFault} (Err fault) (Ok demo)) ↔ IsDemo bytes demo
  no_demo fault refused demo = (
    λ e. absurd (let f : ⊥ = cc in f),
    λ h. absurd (IsDemo-not_refused bytes demo fault h refused),
  )

  pub only_fault : (fault : LaterFault) → RefusesDemo bytes fault → (other : LaterFault)
      → (◌≡◌ {A = Result Demo LaterFault} (Err fault) (Err other)) ↔ RefusesDemo bytes other
  only_fault fault refused other = (
    λ e. let same : fault ≡ other = cc in subst (RefusesDemo bytes) same refused,
    λ r. ap (λ f. Err f) (RefusesDemo-one bytes fault other refused r),
  )

  -- the first reason that holds before the commands
  pub first_refuses : (fault : LaterFault) → first_refusal bytes ≡ Some fault → RefusesDemo bytes fault
  first_refuses fault is = subst (λ o. RefusesBy bytes o fault) (sym is) refl

  -- what stands before the commands, and the bytes from the first command on
  module _ (wrapper : Option Wrapper) (layout : Layout) (header commands : List ℕ)
      (kept : Option (List ℕ)) (allowed : first_refusal bytes ≡ None)
      (wrapped : wrapper ≡ wrapper_of bytes) (version : layout_in bytes ≡ Some layout)
      (headed : header ≡ header_of (behind_wrapper bytes))
      (framed : kept ≡ frame_of (wrapper_of bytes) (behind_header (behind_wrapper bytes)))
      (behind : commands ≡ behind_frame (wrapper_of bytes) (behind_header (behind_wrapper bytes))) where
    abbrev form : CommandForm
    form = form_of layout wrapper

    parts : (header_refusal (size_of (wrapper_of bytes)) (behind_wrapper bytes) ≡ None)
        × (key_frame_refusal (wrapper_of bytes) (behind_header (behind_wrapper bytes)) ≡ None)
    parts = inner_passed (wrapper_of bytes) (behind_wrapper bytes) (first_passed bytes allowed).1

    outer : IsWrapper (take (wrapper_size bytes) bytes) (wrapper_of bytes) × (wrapper_size bytes ≤ length bytes)
    outer = unwraps bytes (first_passed bytes allowed).0

    frame : (frame : List ℕ)
        × (behind_header (behind_wrapper bytes) ≡ frame ++ behind_frame (wrapper_of bytes) (behind_header (behind_wrapper bytes)))
        × IsKeyFrame (wrapper_of bytes) frame (frame_of (wrapper_of bytes) (behind_header (behind_wrapper bytes)))
    frame = unframes (wrapper_of bytes) (behind_header (behind_wrapper bytes)) parts.1

    scan : (body : List ℕ) × (commands ≡ body ++ left_in form commands)
        × AreCommands form body (commands_in form commands)
    scan = commands_joined (length commands) form commands (omega arith)

    split : take (wrapper_size bytes) bytes ++ behind_wrapper bytes ≡ bytes
    unfolding behind_wrapper
    split = take-append-drop (wrapper_size bytes) bytes

    joined : (left : List ℕ) → left_in form commands ≡ left
        → bytes ≡ take (wrapper_size bytes) bytes ++ (header ++ (frame.0 ++ (scan.0 ++ left)))
    joined left is =
        let third : behind_frame (wrapper_of bytes) (behind_header (behind_wrapper bytes)) ≡ scan.0 ++ left =
        sym behind ∙ scan.1 ∙ ap (λ t. scan.0 ++ t) is in
        let second : behind_wrapper bytes ≡ header ++ (frame.0 ++ (scan.0 ++ left)) =
        header_joined (size_of (wrapper_of bytes)) (behind_wrapper bytes) layout version parts.0
        ∙ ap (λ h. h ++ behind_header (behind_wrapper bytes)) (sym headed)
        ∙ ap (λ t. header ++ t) (frame.1 ∙ ap (λ t. frame.0 ++ t) third) in
        sym split ∙ ap (λ t. take (wrapper_size bytes) bytes ++ t) second

    begun : IsHeader header layout
    begun =
        subst (λ h. IsHeader h layout) (sym headed)
        (heads (size_of (wrapper_of bytes)) (behind_wrapper bytes) layout version parts.0)

    pub players_there : 0 < players_in (players_of layout header)
    players_there = begun.players

    pub players_four : length (players_of layout header) ≡ 4
    players_four =
        let sound = layout_sound (slice_index header 0) layout begun.version in
        length-take-le 4 (drop (players_at layout header) header)
        (omega (arith, length-drop (players_at layout header) header, begun.long, sound.players))

    pub options_few : options_in layout.engine header ≤ 25
    options_few = begun.options

    pub players_low : layout.players ≤ 269
    players_low = (layout_sound (slice_index (behind_wrapper bytes) 0) layout version).few

    pub found_demo : (rest : List ℕ) → left_in form commands ≡ 128 ∷ rest
        → IsDemo bytes (record {
          wrapper = wrapper;
          layout = layout;
          header = header;
          key_frame = kept;
          commands = commands_in form commands;
          rest = rest;
        })
    found_demo rest marked = record {
      front = take (wrapper_size bytes) bytes;
      frame = frame.0;
      body = scan.0;
      joined = joined (128 ∷ rest) marked;
      wrapped = subst (IsWrapper (take (wrapper_size bytes) bytes)) (sym wrapped) outer.0;
      begins = begun;
      framed =
          subst (λ w. IsKeyFrame w frame.0 kept) (sym wrapped)
          (subst (IsKeyFrame (wrapper_of bytes) frame.0) (sym framed) frame.2);
      follow = scan.2;
    }

    pub left_within : length (left_in form commands) ≤ length bytes
    left_within =
        let whole = ap length (joined (left_in form commands) refl) in
        omega (
          arith,
          whole,
          length-append (take (wrapper_size bytes) bytes) (header ++ (frame.0 ++ (scan.0 ++ left_in form commands))),
          length-append header (frame.0 ++ (scan.0 ++ left_in form commands)),
          length-append frame.0 (scan.0 ++ left_in form commands),
          length-append scan.0 (left_in form commands),
        )

    pub cut_demo : ((rest : List ℕ) → left_in form commands ≢ 128 ∷ rest)
        → RefusesDemo bytes (NoMarker (length bytes - length (left_in form commands)))
    unfolding behind_front
    cut_demo unmarked =
        let form_same : form ≡ form_of layout (wrapper_of bytes) = ap (form_of layout) wrapped in
        subst (λ o. RefusesBy bytes o (NoMarker (length bytes - length (left_in form commands)))) (sym allowed)
        (record {
          layout = layout;
          body = scan.0;
          commands = commands_in form commands;
          rest = left_in form commands;
          version = version;
          joined = sym behind ∙ scan.1;
          follow = subst (λ f. AreCommands f scan.0 (commands_in form commands)) form_same scan.2;
          most =
              subst (λ f. NoneBegins (IsCommand f) (left_in form commands)) form_same
              (stops_none form (left_in form commands) (left_stops (length commands) form commands (omega arith)));
          unmarked = unmarked;
          placed = omega (arith, left_within);
        })
