-- The sides of all inboxes, and the proxies that they are of.
use Rattle.std.proofs.Common.{◌≡◌, ◌∙◌, ℕ, zero, suc, List, [], ◌∷◌, ap, subst, length, map, sym, refl}
use Rattle.std.specs.Prelude.{slice_get, Some}
use Rattle.std.proofs.lemmas.List.{length-map}
use Rattle.std.proofs.lemmas.Option.{none-some, same_Some}
use Rattle.inboxes.specs.Blanks.{AreSides}
use Rattle.inboxes.specs.Ends.{ProxyView}
use Rattle.threads_lines.specs.Threads.{AreInPlace}
use Rattle.threads_run.specs.Delivered.{proxy_of}

-- whose number it is
side_of : (sides : List ProxyView) (p number : ℕ) → slice_get (map proxy_of sides) p ≡ Some number → (side : ProxyView) × (slice_get sides p ≡ Some side) × (side.proxy ≡ number)
side_of [] p number at = absurd (none-some number at)
side_of (side ∷ sides) zero number at = (side, refl, same_Some side.proxy number at)
side_of (side ∷ sides) (suc p) number at = side_of sides p number at

-- sides in order are of proxies in order
pub sides_in_place : (proxies resolvers : ℕ) (sides : List ProxyView) → AreSides proxies resolvers sides → AreInPlace (map proxy_of sides)
sides_in_place proxies resolvers sides are p number at =
    let (side, there, is) = side_of sides p number at in
    sym is ∙ (are.1 p side there).0

-- the sides of all proxies, in order, are as many as these
pub sides_of : (sides : List ProxyView) (numbers : List ℕ) (proxies : ℕ) → map proxy_of sides ≡ numbers → length numbers ≡ proxies → AreInPlace numbers
    → (length sides ≡ proxies) × AreInPlace (map proxy_of sides)
sides_of sides numbers proxies same count placed =
    (sym (length-map sides proxy_of) ∙ ap (λ (ps : List ℕ). length ps) same ∙ count, subst AreInPlace (sym same) placed)
