use Rattle.std.proofs.Common.{◌↔◌, Bool}
use Rattle.std.specs.Prelude.{IsTrue}
use Rattle.lens_engines.proofs.unlisted.Unlisted.of.Goals as goal

-- something lacks where what shows that it is there doesn't hold
lacking : (lacks is_there : Bool) (There Asked : Type 0) → (IsTrue lacks ↔ ((¬ IsTrue is_there) × Asked)) → (IsTrue is_there ↔ There)
    → (IsTrue lacks ↔ ((¬ There) × Asked))
lacking lacks is_there There Asked lacks_is there_is = (
  (λ yes. let both = lacks_is.0 yes in ((λ there. both.0 (there_is.1 there)), both.1)),
  (λ both. lacks_is.1 ((λ yes. both.0 (there_is.0 yes)), both.1)),
)

pub returns-in-Some : goal.returns-in-Some
returns-in-Some g c =
    rw c.in-Some.is
    (record {
      textures = lacking _ _ _ _ c.lacks.ensures c.has_textures.ensures;
      flats = lacking _ _ _ _ c.lacks-in-Some.ensures c.has_flats.ensures;
      flat_start = lacking _ _ _ _ c.lacks-in-Some-2.ensures c.has_flats-in-Some.ensures;
      flat_end = lacking _ _ _ _ c.lacks-in-Some-3.ensures c.has_flat_end.ensures;
    })
