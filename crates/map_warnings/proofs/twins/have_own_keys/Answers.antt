use Rattle.std.proofs.Common.{◌↔◌, subst}
use Rattle.std.specs.Prelude.{IsTrue}
use Rattle.map_warnings.specs.EndsKey.{AreApart}
use Rattle.map_warnings.proofs.KeyLemmas.{apart_in_order, in_order}
use Rattle.map_warnings.proofs.twins.have_own_keys.Goals as goal

pub are_apart-requires : goal.are_apart-requires
are_apart-requires g c = rw c.deref-2.ensures.value (in_order _ c.sort_unstable.ensures.sorted)

pub returns : goal.returns
returns g c =
    let told : IsTrue c.are_apart.result ↔ AreApart c.sort_unstable.new.self.items =
    subst (λ numbers. IsTrue c.are_apart.result ↔ AreApart numbers) c.deref-2.ensures.value c.are_apart.ensures in
    let both = apart_in_order _ _ c.sort_unstable.ensures.permutation in
    let own = subst (λ numbers. AreApart c.sort_unstable.new.self.items ↔ AreApart numbers) c.in_ok-keys.ensures both in
    (λ yes. own.0 (told.0 yes), λ apart. told.1 (own.1 apart))
