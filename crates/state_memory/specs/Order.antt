-- Lists in the order of their versions.
use Rattle.std.specs.Prelude.{◌<◌, ◌≤◌, List, [], ◌∷◌, slice_get, Some}
use Rattle.std.specs.Prelude.{◌≡◌}
use Rattle.model.specs.Numbers.{Version, ProxyNumber}
use Rattle.model.specs.declared.reply.Reply.{Reply}
use Rattle.model.specs.declared.unseen.UnseenRow.{UnseenRow}
use Rattle.model.specs.ResolverMemory.{ProxyMemory}

-- the versions of the elements are strictly increasing, all above `low`, and none above `high`
abbrev pub Rise : {X : Type 0} → (version_of : X → Version) → (low high : Version) → List X → Type 0
Rise version_of low high [] = low ≤ high
Rise version_of low high (x ∷ xs) = (low < version_of x) × Rise version_of (version_of x) high xs

-- the versions of the elements are strictly increasing, and all above `low`
abbrev pub Increase : {X : Type 0} → (version_of : X → Version) → (low : Version) → List X → Type 0
Increase version_of low [] = Unit {0}
Increase version_of low (x ∷ xs) = (low < version_of x) × Increase version_of (version_of x) xs

-- the versions of some rows are strictly increasing
abbrev pub RowsIncrease : List UnseenRow → Type 0
RowsIncrease rows = Increase (λ (row : UnseenRow). row.version) 0 rows

-- the versions of some replies are strictly increasing
abbrev pub RepliesIncrease : List Reply → Type 0
RepliesIncrease replies = Increase (λ (reply : Reply). reply.version) 0 replies

-- the rows rise up to a version
abbrev pub RowsRise : (high : Version) → List UnseenRow → Type 0
RowsRise high rows = Rise (λ (row : UnseenRow). row.version) 0 high rows

-- the replies rise up to a version
abbrev pub RepliesRise : (high : Version) → List Reply → Type 0
RepliesRise high replies = Rise (λ (reply : Reply). reply.version) 0 high replies

-- what a resolver keeps is in the order of versions, up to its own
pub record AreInOrder
    (version : Version) (rows : List UnseenRow) (proxies : List ProxyMemory) : Type 0 where
  pub rows_rise : RowsRise version rows
  pub replies_rise :
      (p : ProxyNumber) (one : ProxyMemory) → slice_get proxies p ≡ Some one
      → RepliesRise version one.replies
