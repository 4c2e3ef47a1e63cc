-- The two cases of what `take` gave, and the block as room for a type. Assumes `Logic`.
use Rattle.std.proofs.Common.{◌≡◌, ℕ, ◌*◌, ◌/◌, ◌%◌, ◌^◌, ◌<◌, ◌≤◌, List, [], ◌∷◌, ◌++◌, IfSome, None, Some, refl, sym, ap, subst, ◌∙◌, arith}
use seplogic.Ra.Ura.{Ura}
use mir.Syntax.{Ty, ty_int, ty_array, Width, w8, w16, w32, w64, w128}
use mir.Val.{Val, vcons, vnil, of_list, bytes}
use base.Logic.{ent, sep, never_e}
use base.Fml.{ftrue, fwand, froom}
use prog.Memory.{size, capped}
use prog.Align.{Dv, align_w, align-bytes}
use prog.Capped.{capped_is, capped_small}
use types.Logic.{Logic, sem}
use types.Kit.{Item, Goal, Seq, ‵, ◌⊛◌, ◌$◌, ◌∵◌, !, qed, by, move, keep, drop, use1, split, frame, rewrite, fsplit, fpick, feq_l, done}
use types.Match.{live}
use denote.RattleType.{RattleType}
use denote.RawPtr.{Ptr, block_ptr, null_ptr, room_for}
use denote.Shadow.{pure_l}
use denote.Steps.{only, nothing}
use Rattle.std.specs.contracts.option.Option as option
use Rattle.linked_list_allocator.specs.Ownership.{bytes_at}
use Rattle.linked_list_allocator.proofs.Values.{list_val, list_own, list_told}
use Rattle.linked_list_allocator.proofs.Nodes.{retypes}
use Rattle.block_alloc.specs.contracts.Room as room

abbrev pub Taken : RattleType
Taken = option.the_row room.the_row

-- m bytes serve a request of n bytes aligned to a
abbrev pub Serves : ℕ → ℕ → ℕ → Type 0
Serves n a m = (n ≤ m / 16 * 16) × (m < 2 ^ 63) × (a ≤ 16)

abbrev pub ServesIfTaken : ℕ → ℕ → Taken.Denot → Type 0
ServesIfTaken n a x = IfSome x (λ r. Serves n a r.size)

divides_16 : (w : Width) → Dv (bytes w) 16
divides_16 w8 = tt
divides_16 w16 = tt
divides_16 w32 = tt
divides_16 w64 = tt
divides_16 w128 = tt

pub hands_out : {M : Type 1} {𝓤 : Ura M} (𝓛 : Logic 𝓤) (τ : Ty) (b o m n a : ℕ) → capped (size τ) ≡ n → Serves n a m
    → ent 𝓤 (sem 𝓛 (bytes_at (block_ptr b o) m)) (sep 𝓤 (𝓛.H.room τ b o) (sem 𝓛 ftrue))
hands_out {𝓤 = 𝓤} 𝓛 τ b o m n a sized serves =
    let low = serves.0 in let short = serves.1 in let whole = m / 16 * 16 in let even : whole % 16 ≡ 0 = omega arith in let same_units : m / 16 ≡ whole / 16 = omega arith in
    let small : size τ < 2 ^ 63 = capped_small (size τ) (omega arith) in
    let same : n ≡ size τ = sym sized ∙ capped_is (size τ) (omega arith) in
    qed 𝓛 (‵ (bytes_at (block_ptr b o) m) ∷ []) ∵ rewrite ! 0 (λ (k : ℕ). ‵ (room_for (ty_array (ty_int w128) k) (block_ptr b o))) same_units refl $
    use1 𝓛 (‵ (froom τ b o) ⊛ ‵ (fwand (froom τ b o) (bytes_at (block_ptr b o) whole)))
    (retypes 𝓛 b τ o whole even (omega arith) (subst (λ (k : ℕ). Dv k 16) (sym (align-bytes τ)) (divides_16 (align_w τ)))) $ split ! $ frame ! $
    drop ! $ nothing ! $ done !

module _ {M : Type 1} {𝓤 : Ura M} {𝓛 : Logic 𝓤} {K : Type 0} {Γ : List (Item 𝓤)} {G : Goal 𝓤 𝓛.H} where
  given : K → (n a : ℕ) (p : Ptr) (m : ℕ) (v : Val) → Serves n a m → v ≡ live 1 (vcons (list_val p) vnil)
      → ((b o : ℕ) → v ≡ live 1 (vcons (list_val (block_ptr b o)) vnil) → Seq K 𝓛 (‵ (bytes_at (block_ptr b o) m) ∷ Γ) G) → Seq K 𝓛 (‵ (bytes_at p m) ∷ Γ) G
  given t n a (block_ptr b o) m v serves is some = some b o is
  given t n a null_ptr m v serves is some = keep t (0 ∷ []) $ by t (never_e 𝓤 _)

  pub taken : K → (n a : ℕ) (x : Taken.Denot) (v : Val) → ServesIfTaken n a x
      → ((m : ℕ) → Serves n a m → (b o : ℕ) → v ≡ live 1 (vcons (list_val (block_ptr b o)) vnil) → Seq K 𝓛 (‵ (bytes_at (block_ptr b o) m) ∷ Γ) G)
      → (v ≡ live 0 vnil → Seq K 𝓛 Γ G) → Seq K 𝓛 (‵ (Taken.own_val x (v ∷ [])) ∷ Γ) G
  taken t n a None v told some none =
      fpick t (λ us. fsplit t $ feq_l t (λ is. fpick t (λ vss. fsplit t $ feq_l t (λ is'. drop t $ none (ap only is ∙ ap (λ (ws : List Val). live 0 (of_list ws)) is')))))
  taken t n a (Some w) v told some none =
      fpick t (λ us. fsplit t $ feq_l t (λ is. fpick t (λ vss. fsplit t $ feq_l t (λ is'. fsplit t $ move t (1 ∷ []) $ drop t $ fsplit t $ pure_l t (list_own w.ptr vss.0) (λ s.
      let parts = list_told w.ptr vss.0 s in
      given t n a w.ptr w.size v told (ap only is ∙ ap (λ (xs : List Val). live 1 (of_list xs)) (is' ∙ ap (λ (xs : List Val). xs ++ []) parts.0)) (some w.size told))))))
