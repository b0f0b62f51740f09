-- Of the code's inside, apart from the rules: where blocks end, from the back of the items to their front.
use Rattle.std.specs.Prelude.{◌≡◌, ℕ, zero, suc, ◌+◌, ◌-◌, max, Bool, true, false, cond, ◌&&◌, ◌||◌, not, ◌==◌, List, [], ◌∷◌, Option, Some}
use Rattle.std.specs.Prelude.{None, map, reverse, length}
use Rattle.std.specs.List.{count_by}
use Rattle.leaving.specs.declared.part.Fate.{Fate}
use Rattle.leaving.specs.declared.part.Fate.TheVariants.{Stays, Moves}
use Rattle.leaving.specs.declared.part.Part.{Part}
use Rattle.leaving.specs.declared.part.Part.TheVariants.{Opening, Closing, Assertion}
use Rattle.leaving.specs.declared.blocks.Counts.{Counts}
use Rattle.leaving.specs.declared.blocks.BlockEnd.{BlockEnd}
use Rattle.leaving.specs.declared.blocks.Left.{Left}
use Rattle.leaving.specs.declared.blocks.Behind.{Behind}
use Rattle.leaving.specs.declared.going.Reach.{Reach}
use Rattle.leaving.specs.Leaving.{fates}

-- ---- how many assertions there are

abbrev pub stays : Fate → Bool
stays Stays = true
stays _ = false

abbrev pub moves : Fate → Bool
moves Moves = true
moves _ = false

abbrev pub counts_of : List Part → Counts
counts_of xs = record { all = length (fates xs); staying = count_by stays (fates xs); moving = count_by moves (fates xs) }

-- with one more item
abbrev pub counted : Part → Counts → Counts
counted (Assertion f) c = record { all = c.all + 1; staying = c.staying + cond (stays f) 1 0; moving = c.moving + cond (moves f) 1 0 }
counted _ c = c

-- ---- where blocks end

abbrev pub rest_of : {A : Type 0} → List A → List A
rest_of [] = []
rest_of (x ∷ xs) = xs

-- what stands behind the $} of each block that begins in front of items, the innermost first
abbrev pub ends_of : List Part → List (List Part)
ends_of [] = []
ends_of (Closing ∷ xs) = xs ∷ ends_of xs
ends_of (Opening ∷ xs) = rest_of (ends_of xs)
ends_of (_ ∷ xs) = ends_of xs

-- a block's end, of so many items in all, from what stands behind it
abbrev pub end_at : ℕ → List Part → BlockEnd
end_at total rest = record { end = total - length rest; behind = counts_of rest }

-- what stands behind a place, where these items do
abbrev pub IsBehind : ℕ → List Part → Behind → Type 0
IsBehind total xs b = (reverse b.ends.items ≡ map (end_at total) (ends_of xs)) × (b.counts ≡ counts_of xs)

-- ---- blocks that have nothing left

-- the block that ends there, if it has nothing left, from the assertions behind its ${
abbrev pub left_of : BlockEnd → Counts → Option Left
left_of b from =
    cond (from.staying == b.behind.staying && not (from.all == b.behind.all)) (Some (record {
      end = b.end;
      is_deleted = from.moving == b.behind.moving;
      is_single = (from.all - b.behind.all) == 1;
    })) None

abbrev pub first_left : List BlockEnd → Counts → Option Left
first_left [] from = None
first_left (b ∷ bs) from = left_of b from

-- the block whose ${ stands in front of a place
abbrev pub pop_left : Behind → Option Left
pop_left b = first_left (reverse b.ends.items) b.counts

-- the block that begins at an item, in front of those
abbrev pub left_at : ℕ → Part → List Part → Option Left
left_at total Opening xs = first_left (map (end_at total) (ends_of xs)) (counts_of xs)
left_at total _ xs = None

-- of each item
abbrev pub lefts : ℕ → List Part → List (Option Left)
lefts total [] = []
lefts total (x ∷ xs) = left_at total x xs ∷ lefts total xs

-- ---- how far they reach

-- how many blocks are open behind an item, from how many are in front of it
abbrev pub open_after : Option ℕ → Part → Option ℕ
open_after None x = None
open_after (Some n) Opening = Some (suc n)
open_after (Some zero) Closing = None
open_after (Some (suc n)) Closing = Some n
open_after (Some n) _ = Some n

abbrev pub is_outermost : Option ℕ → Bool
is_outermost (Some zero) = true
is_outermost _ = false

abbrev pub takes_comments : Option ℕ → Left → Bool
takes_comments depth l = l.is_deleted || (is_outermost depth && l.is_single)

-- at an item, where such a block may begin
abbrev pub reach_at : Reach → Option Left → Reach
reach_at r None = r
reach_at r (Some l) =
    record {
      depth = r.depth;
      any = max r.any l.end;
      commented = cond (takes_comments r.depth l) (max r.commented l.end) r.commented;
    }
