-- What is printed on a page that goes to a device.
use Rattle.std.specs.Prelude.{◌≡◌, ◌++◌, ℕ, List, Bool, true, false}
use Rattle.std.specs.Borrow.{GName}
use Rattle.sessions.specs.Events.{View, WritesText}

-- a device before anything was printed: how it is borrowed, what it shows, and its failed calls
pub record Beginning (N F : Type 0) : Type 0 where
  pub borrow : GName
  pub view : View N
  pub failures : F

-- What was printed since the beginning was written, but for what is kept. Once a write has failed, what
-- was written begins it.
pub record HasSent {N F : Type 0} (write_fails : F → F → Type 0) (borrow : GName) (view : View N)
    (failures : F) (kept : List ℕ) (has_failed : Bool) (beginning : Beginning N F)
    (printed : List ℕ) : Type 0 where
  pub same : borrow ≡ beginning.borrow
  pub written : List ℕ
  pub unwritten : List ℕ
  pub wrote : WritesText beginning.view view written
  pub all : written ++ unwritten ≡ printed
  pub unfailed : has_failed ≡ false → (unwritten ≡ kept) × (failures ≡ beginning.failures)
  pub failed : has_failed ≡ true → write_fails beginning.failures failures
