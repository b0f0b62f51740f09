-- Items that were found in a text, one behind the other.
use Rattle.std.proofs.Common.{◌≡◌, ◌∙◌, ℕ, zero, suc, ◌+◌, ◌<◌, ◌≤◌, List, [], ◌∷◌, ◌++◌, length, drop, take, refl, sym, ap, subst, arith}
use Rattle.std.proofs.Common.{append-nil, append_assoc, get_or, All}
use Rattle.std.proofs.Math.Seq.{take-length, drop-length}
use Rattle.std.proofs.lemmas.List.{drop_more}
use Rattle.std.proofs.lemmas.List.Elements.{All-nil, All-cons}
use Rattle.items.specs.declared.reading.Item.{Item as Found}
use Rattle.items.specs.Items.{Item, pieces_of, IsItem, Spells}
use Rattle.items.specs.Reading.{tokens_at, Stands, IsOfKind, IsItemAt, AreFound, AreItems, IsBehind}
use Rattle.items.proofs.Standing.{stands_both}
use Rattle.items.proofs.Spelled.{spells_stand}
use Rattle.items.proofs.PutThen.{is_item}

-- ---- so far

-- items were found up to a place: with those behind it they are all
abbrev pub AreFoundTo : List ℕ → ℕ → List Found → Type 0
AreFoundTo text at fs =
    (xs : List Item) × ((gs : List Found) (ys : List Item) → AreFound text at gs ys → AreFound text 0 (fs ++ gs) (xs ++ ys))

module _ (text : List ℕ) where
  pub one_found : (at : ℕ) (fs : List Found) (f : Found) → AreFoundTo text at fs → IsItemAt text at f → at < f.end → f.end ≤ length text
      → AreFoundTo text f.end (fs ++ f ∷ [])
  one_found at fs f so_far is later within =
      let x = is.item in (
        so_far.0 ++ x ∷ [],
        λ gs ys h.
            subst (λ l. AreFound text 0 l ((so_far.0 ++ x ∷ []) ++ ys)) (sym (append_assoc fs (f ∷ []) gs))
            (subst (λ l. AreFound text 0 (fs ++ f ∷ gs) l) (sym (append_assoc so_far.0 (x ∷ []) ys))
            (so_far.1 (f ∷ gs) (x ∷ ys) (is.stands, is.kind, later, within, h))),
      )

  pub all_found : (at : ℕ) (fs : List Found) → AreFoundTo text at fs → tokens_at text at ≡ [] → AreItems text fs
  all_found at fs so_far none = (
    so_far.0 ++ [],
    subst (λ l. AreFound text 0 l (so_far.0 ++ [])) (append-nil fs) (so_far.1 [] [] none),
  )

  -- ---- from an item on

  -- the item behind so many, and those behind it
  pub record IsNext (at : ℕ) (gs : List Found) (xs : List Item) (k : ℕ) (f : Found) : Type 0 where
    pub item : Item
    pub stands : Stands text at item f.end
    pub kind : IsOfKind f.kind item
    pub later : at < f.end
    pub within : f.end ≤ length text
    pub left : AreFound text f.end gs (drop (k + 1) xs)
    pub so_far : take (k + 1) xs ≡ take k xs ++ item ∷ []

  -- one item more of a list
  cut_next : (k : ℕ) (xs ys : List Item) (x : Item) → drop k xs ≡ x ∷ ys
      → (drop (suc k) xs ≡ ys) × (take (suc k) xs ≡ take k xs ++ x ∷ [])
  cut_next zero xs ys x e = (ap (drop 1) e, ap (take 1) e)
  cut_next (suc k) [] ys x e = absurd cc
  cut_next (suc k) (y ∷ xs) ys x e = let cut = cut_next k xs ys x e in (cut.0, ap (λ l. y ∷ l) cut.1)

  next_of : (at : ℕ) (gs : List Found) (xs zs : List Item) (k : ℕ) (f : Found) → drop k xs ≡ zs → AreFound text at (f ∷ gs) zs
      → IsNext at gs xs k f
  next_of at gs xs [] k f e h = absurd h
  next_of at gs xs (x ∷ zs) k f e h =
      let cut = cut_next k xs zs x e in
      let more : suc k ≡ k + 1 = omega arith in record {
        item = x;
        stands = h.0;
        kind = h.1;
        later = h.2;
        within = h.3;
        left = subst (λ n. AreFound text f.end gs (drop n xs)) more (subst (AreFound text f.end gs) (sym cut.0) h.4);
        so_far = ap (λ n. take n xs) (sym more) ∙ cut.1;
      }

  pub found_next : (at : ℕ) (fs : List Found) (xs : List Item) (k : ℕ) (f : Found) → k < length fs
      → AreFound text at (drop k fs) (drop k xs) → IsNext at (drop (k + 1) fs) xs k (get_or fs k f)
  found_next at fs xs k f lt h =
      next_of at (drop (k + 1) fs) xs (drop k xs) k (get_or fs k f) refl
      (subst (λ l. AreFound text at l (drop k xs)) (drop_more fs k f lt) h)

  pub behind_one : (at : ℕ) (fs : List Found) (xs : List Item) (k : ℕ) (f : Found) → k < length fs → AreFound text at fs xs
      → IsBehind text at fs xs (suc k) (get_or fs k f).end
  behind_one at [] xs k f lt h = absurd (omega (arith, lt))
  behind_one at (g ∷ fs) [] k f lt h = absurd h
  behind_one at (g ∷ fs) (x ∷ xs) zero f lt h = record {
    stands = subst (λ y. Stands text at y g.end) (sym (append-nil x)) h.0;
    left = h.4;
    within = h.3;
  }
  behind_one at (g ∷ fs) (x ∷ xs) (suc k) f lt h =
      let b = behind_one g.end fs xs k f (omega (arith, lt)) h.4 in record {
        stands = stands_both text at g.end (get_or fs k f).end x (pieces_of (take (suc k) xs)) h.0 b.stands;
        left = b.left;
        within = b.within;
      }

  -- ---- the whole text

  pub each_found : (at : ℕ) (fs : List Found) (xs : List Item) → AreFound text at fs xs → All IsItem xs
  each_found at [] [] h = All-nil IsItem
  each_found at [] (x ∷ xs) h = absurd h
  each_found at (f ∷ fs) [] h = absurd h
  each_found at (f ∷ fs) (x ∷ xs) h = All-cons IsItem x xs (is_item f.kind x h.1) (each_found f.end fs xs h.4)

  pub many_found : (at : ℕ) (fs : List Found) (xs : List Item) → AreFound text at fs xs → length fs ≡ length xs
  many_found at [] [] h = refl
  many_found at [] (x ∷ xs) h = absurd h
  many_found at (f ∷ fs) [] h = absurd h
  many_found at (f ∷ fs) (x ∷ xs) h = ap suc (many_found f.end fs xs h.4)

  none_left : (at : ℕ) (fs : List Found) (xs : List Item) → fs ≡ [] → xs ≡ [] → AreFound text at fs xs → tokens_at text at ≡ []
  none_left at [] [] e f h = h
  none_left at [] (x ∷ xs) e f h = absurd h
  none_left at (f ∷ fs) xs e g h = absurd cc

  pub spells_found : (fs : List Found) (xs : List Item) (end : ℕ) → AreFound text 0 fs xs → IsBehind text 0 fs xs (length fs) end
      → Spells xs (drop end text) text
  spells_found fs xs end h b =
      let many = many_found 0 fs xs h in
      let stands =
      subst (λ ys. Stands text 0 (pieces_of ys) end) (ap (λ n. take n xs) many ∙ take-length xs) b.stands in
      let no_more = ap (λ n. drop n xs) many ∙ drop-length xs in
      let none = none_left end (drop (length fs) fs) (drop (length fs) xs) (drop-length fs) no_more b.left in
      spells_stand text xs end stands none (each_found 0 fs xs h)
