-- Histories that show the same of each cell.
use Rattle.std.proofs.Common.{List, ap, length, refl, slice_index, ℕ, ◌∙◌, ◌≡◌}
use Rattle.tlcore.specs.History.{WordsEntry, deed, value, value_after, version, version_after}
use Rattle.tlcore.proofs.Deeds.{did, value-same, version-same}

-- the history shows the same of each cell
pub record Stays (o : List ℕ) (h g : List WordsEntry) : Type 0 where
  pub of_version : (c : ℕ) → version g c ≡ version h c
  pub of_value : (c : ℕ) → value o g c ≡ value o h c

pub Stays-refl : (o : List ℕ) (h : List WordsEntry) → Stays o h h
Stays-refl o h = record { of_version = λ c. refl; of_value = λ c. refl }

-- where every deed is done alike, the history shows the same
pub alike_stays : (o : List ℕ) (h g : List WordsEntry) → length g ≡ length h → ((c i : ℕ) → did (deed g c i) ≡ did (deed h c i))
    → Stays o h g
alike_stays o h g l f =
    record {
      of_version = λ c. ap (version_after (deed g c)) l ∙ version-same (deed h c) (deed g c) (length h) (λ i m. f c i);
      of_value =
          λ c. ap (value_after (deed g c) (slice_index o c)) l
          ∙ value-same (deed h c) (deed g c) (slice_index o c) (length h) (λ i m. f c i);
    }
