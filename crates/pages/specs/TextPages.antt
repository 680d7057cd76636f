-- What a page in memory keeps.
use Rattle.std.specs.Prelude.{◌≡◌, ◌++◌, ℕ, List, false, string_bytes}
use Rattle.pages.specs.declared.text_page.TextPage.{TextPage}

-- a text that began with `first` and had the other printed after it, unless some of it was lost
pub record HasText (page : TextPage) (first printed : List ℕ) : Type 0 where
  pub kept : page.is_lost ≡ false → string_bytes page.text ≡ first ++ printed
