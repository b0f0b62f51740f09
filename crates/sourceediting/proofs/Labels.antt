-- Assertions of a library behind edits, one more at a time.
use Rattle.std.proofs.Common.{◌≡◌, ◌∙◌, ℕ, ◌+◌, ◌<◌, Bool, true, false, List, [], ◌∷◌, ◌++◌, map, filter, take, drop, set, get_or, length, Option, Some, refl, sym, ap, cond}
use Rattle.std.specs.Prelude.{filter_map}
use Rattle.std.specs.Borrow.{Bor}
use Rattle.std.specs.Str.{bytes_eq}
use Rattle.std.proofs.lemmas.Bool.{cond-true, cond-false}
use Rattle.std.proofs.lemmas.List.{append-nil, append_assoc, length-map, map-append, map-set, map_more, take_more, get_or-map}
use Rattle.std.proofs.lemmas.List.Edits.{map_over_more}
use Rattle.std.proofs.lemmas.List.Elements.{filter-append, filter_map-append}
use Rattle.std.proofs.lemmas.Grind.{flat_map-append}
use Rattle.mmtext.specs.Words.{Word}
use Rattle.source.specs.Scopes.{Pair}
use Rattle.library.specs.declared.command.Command.{Command}
use Rattle.library.specs.declared.history.Entry.{Entry}
use Rattle.sourceediting.specs.declared.following.Followed.{Followed as Kept}
use Rattle.sourceediting.specs.Following.{Followed, Following, behind, behind_all, commands_of, all_commands, opened, source_of}
use Rattle.sourceediting.specs.Views.{seen_followed, seen_living}

-- ---- behind commands

-- one more assertion behind a rename or a move
pub one_more : (f : Followed → Followed) (first : List Followed) (xs : List Kept) (k : ℕ) (d r : Kept) → k < length first → k < length xs
    → seen_living xs ≡ map f (take k first) ++ drop k first → seen_followed r ≡ f (seen_followed (get_or xs k d))
    → seen_living (set xs k r) ≡ map f (take (k + 1) first) ++ drop (k + 1) first
one_more f first xs k d r within there so_far is =
    let x : Followed = seen_followed (get_or xs k d) in
    map-set seen_followed xs k r
    ∙ ap (set (seen_living xs) k) is
    ∙ map_over_more f first (seen_living xs) k x within so_far (sym (get_or-map seen_followed xs k d x there))

-- one more command
behind_append : (cs more : List Command) (f : Following) → behind_all (cs ++ more) f ≡ behind_all more (behind_all cs f)
behind_append [] more f = refl
behind_append (c ∷ cs) more f = behind_append cs more (behind c f)

pub command_more : (cs : List Command) (k : ℕ) (c : Command) (first so_far next : Following) → k < length cs → c ≡ get_or cs k c
    → so_far ≡ behind_all (take k cs) first → next ≡ behind c so_far → next ≡ behind_all (take (k + 1) cs) first
command_more cs k c first so_far next within is before more =
    more
    ∙ ap (behind c) before
    ∙ sym (behind_append (take k cs) (c ∷ []) first)
    ∙ ap (λ (x : Command). behind_all (take k cs ++ x ∷ []) first) is
    ∙ ap (λ (xs : List Command). behind_all xs first) (sym (take_more cs k c within))

-- one more entry
pub entry_more : (es : List Entry) (k : ℕ) (e : Entry) (first so_far next : Following) → k < length es → e ≡ get_or es k e
    → so_far ≡ behind_all (all_commands (take k es)) first → next ≡ behind_all (commands_of e) so_far
    → next ≡ behind_all (all_commands (take (k + 1) es)) first
entry_more es k e first so_far next within is before more =
    more
    ∙ ap (behind_all (commands_of e)) before
    ∙ sym (behind_append (all_commands (take k es)) (commands_of e) first)
    ∙ ap (λ (xs : List Command). behind_all (all_commands (take k es) ++ xs) first) (sym (append-nil (commands_of e)))
    ∙ ap (λ (xs : List Command). behind_all xs first) (sym (flat_map-append commands_of (take k es) (e ∷ [])))
    ∙ ap (λ (x : Entry). behind_all (all_commands (take k es ++ x ∷ [])) first) is
    ∙ ap (λ (xs : List Entry). behind_all (all_commands xs) first) (sym (take_more es k e within))

-- ---- at the opening

-- as many pairs as assertions
pub as_many : (xs : List Kept) (ps : List Pair) → seen_living xs ≡ map opened ps → length xs ≡ length ps
as_many xs ps e = sym (length-map xs seen_followed) ∙ ap length e ∙ length-map ps opened

-- one more that was taken
pub opened_more : (xs next : List Kept) (ps : List Pair) (source first : Bor (List ℕ)) (label : Word) → seen_living xs ≡ map opened ps
    → next ≡ xs ++ record { source = Some source; first = first; now = first; moved = false } ∷ [] → first.now ≡ label
    → seen_living next ≡ map opened (ps ++ (source.now, label) ∷ [])
opened_more xs next ps source first label so_far pushed is =
    let one : Kept = record { source = Some source; first = first; now = first; moved = false } in
    ap seen_living pushed
    ∙ map-append seen_followed xs (one ∷ [])
    ∙ ap (λ (fs : List Followed). fs ++ opened (source.now, first.now) ∷ []) so_far
    ∙ ap (λ (w : Word). map opened ps ++ opened (source.now, w) ∷ []) is
    ∙ sym (map-append opened ps ((source.now, label) ∷ []))

-- ---- over assertions that live

-- labels, and one more if there is one
abbrev pub gone_with : List Word → Option Word → List Word
gone_with ws o = ws ++ filter_map (λ x. x) (o ∷ [])

module _ (xs : List Kept) (k : ℕ) (d : Kept) (within : k < length xs) where
  front_more : seen_living (take (k + 1) xs) ≡ seen_living (take k xs) ++ seen_followed (get_or xs k d) ∷ []
  front_more = map_more seen_followed xs k d within

  -- what one more gives, if it gives anything
  pub gives_more : {A : Type 0} (h : Followed → Option A) (made : List A) (o : Option A) → made ≡ filter_map h (seen_living (take k xs))
      → o ≡ h (seen_followed (get_or xs k d)) → made ++ filter_map (λ x. x) (o ∷ []) ≡ filter_map h (seen_living (take (k + 1) xs))
  gives_more {A} h made o so_far is =
      ap (λ (l : List A). l ++ filter_map (λ x. x) (o ∷ [])) so_far
      ∙ ap (λ (y : Option A). filter_map h (seen_living (take k xs)) ++ filter_map (λ x. x) (y ∷ [])) is
      ∙ sym (filter_map-append h (seen_living (take k xs)) (seen_followed (get_or xs k d) ∷ []))
      ∙ ap (filter_map h) (sym front_more)

  -- one more, where it passes
  pub passes_more : (p : Followed → Bool) (made : List Followed) (b : Bool) → made ≡ filter p (seen_living (take k xs))
      → p (seen_followed (get_or xs k d)) ≡ b
      → made ++ cond b (seen_followed (get_or xs k d) ∷ []) [] ≡ filter p (seen_living (take (k + 1) xs))
  passes_more p made b so_far is =
      let x : Followed = seen_followed (get_or xs k d) in
      ap (λ (l : List Followed). l ++ cond b (x ∷ []) []) so_far
      ∙ ap (λ (t : Bool). filter p (seen_living (take k xs)) ++ cond t (x ∷ []) []) (sym is)
      ∙ sym (filter-append p (seen_living (take k xs)) (x ∷ []))
      ∙ ap (filter p) (sym front_more)

  module _ (label : Word) (first gone : List Word) (so_far : gone ≡ first ++ filter_map (source_of label) (seen_living (take k xs))) where
    gone_more : (o : Option Word) → source_of label (seen_followed (get_or xs k d)) ≡ o
        → gone_with gone o ≡ first ++ filter_map (source_of label) (seen_living (take (k + 1) xs))
    gone_more o is =
        let front = filter_map (source_of label) (seen_living (take k xs)) in
        ap (λ (l : List Word). l ++ filter_map (λ x. x) (o ∷ [])) so_far
        ∙ append_assoc first front (filter_map (λ x. x) (o ∷ []))
        ∙ ap (λ (l : List Word). first ++ l) (gives_more (source_of label) front o refl (sym is))

    -- one more that is deleted, and one that isn't
    pub deleted_more : bytes_eq (get_or xs k d).now.now label ≡ true
        → gone_with gone (seen_followed (get_or xs k d)).source ≡ first ++ filter_map (source_of label) (seen_living (take (k + 1) xs))
    deleted_more h = gone_more _ (cond-true (bytes_eq (get_or xs k d).now.now label) _ _ h)

    pub stays_more : bytes_eq (get_or xs k d).now.now label ≡ false
        → gone ≡ first ++ filter_map (source_of label) (seen_living (take (k + 1) xs))
    stays_more h = sym (append-nil gone) ∙ gone_more _ (cond-false (bytes_eq (get_or xs k d).now.now label) _ _ h)
