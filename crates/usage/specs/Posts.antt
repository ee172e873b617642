-- What the small callers of a tray leave in it.
use Rattle.std.specs.Prelude.{◌≡◌, ℕ, ◌<◌, ◌≤◌, [], ◌∷◌, ◌++◌, length, Ok, Err, Result, slice_index_or}
use Rattle.std.specs.List.{remove}
use Rattle.stamps.specs.Trays.{Memory, elements, capacity_of, free_places, fault_number, IsNoSuchPlace}
use Rattle.stamps.specs.declared.tray.TrayFault.{TrayFault}

module _ {T : Type 0} where
  -- both or neither: refused with 24 where fewer than two places are free
  abbrev pub PostedBoth : Memory T → T → T → Result (Unit {0}) TrayFault → Memory T → Type 0
  PostedBoth s x y (Ok _) t = (2 ≤ free_places s) × (elements t ≡ (elements s ++ x ∷ []) ++ y ∷ []) × (capacity_of t ≡ capacity_of s)
  PostedBoth s x y (Err e) t = (free_places s < 2) × (fault_number e ≡ 24) × (t ≡ s)

  -- the element at place p goes to the end
  abbrev pub MovedBack : Memory T → ℕ → Result (Unit {0}) TrayFault → Memory T → Type 0
  MovedBack s p (Ok _) t =
      (p < length (elements s)) × ((d : T) → elements t ≡ remove (elements s) p ++ slice_index_or (elements s) p d ∷ []) × (capacity_of t ≡ capacity_of s)
  MovedBack s p (Err e) t = IsNoSuchPlace s p e × (t ≡ s)
