-- The first entry of a history that differs from what the editor answers.
use Rattle.std.proofs.Common.{◌≡◌, ℕ, ◌+◌, ◌<◌, List, take, refl, ap, sym, subst, ◌∙◌, inl, inr, arith}
use Rattle.std.proofs.lemmas.Bool.{cases_order}
use Rattle.std.proofs.lemmas.List.{take-take}
use Rattle.std.specs.Prelude.{Bool, IsTrue, ◌↔◌, slice_get, Some, Ok}
use Rattle.library.specs.declared.library.Ranked.{Ranked}
use Rattle.library.specs.declared.command.Command.{Command}
use Rattle.library.specs.declared.command.Reply.{Reply}
use Rattle.library.specs.Library.{Setting}
use Rattle.library.specs.Transactions.{Applied, apply}
use Rattle.library.specs.Histories.{Entry, open_entry, void_entry, done_entry, after_front, after_all, IsRepeated, IsLegal}
use Rattle.librarylaws.proofs.Legal.{get_in_front}
use Rattle.history.specs.Replays.{IsFirstDiffering}

-- the next entry, which differs, is the first that does
pub first_differing : (s : Setting) (lib : List Ranked) (h : List Entry) (i : ℕ) (e : Entry) → slice_get h i ≡ Some e
    → IsLegal s lib (take i h) → (IsRepeated s (after_front s lib h i) e → ⊥) → IsFirstDiffering s lib h (i + 1)
first_differing s lib h i (done_entry cs replies) is legal differs = record {
  place = i;
  counted = refl;
  before = legal;
  commands = cs;
  replies = replies;
  stands = is;
  differs = λ next k. differs (next, k);
}
first_differing s lib h i void_entry is legal differs = absurd (differs tt)
first_differing s lib h i open_entry is legal differs = absurd (differs tt)

abbrev applied : List Ranked → List Reply → Applied
applied lib replies = record { library = lib; replies = replies }

-- a transaction that was done repeats an entry of the same commands where its replies are the entry's
pub repeated_where_same : (s : Setting) (lib next : List Ranked) (given cs : List Command) (made shown replies others : List Reply)
    (b : Bool)
    → apply s lib given ≡ Ok (record { library = next; replies = made }) → given ≡ cs → shown ≡ made → others ≡ replies
    → IsTrue b ↔ (shown ≡ others) → IsTrue b ↔ IsRepeated s lib (done_entry cs replies)
repeated_where_same s lib next given cs made shown replies others b answer is_given is_shown is_others same = (
  (λ t. (
    next,
    subst (λ xs. apply s lib xs ≡ Ok (record { library = next; replies = replies })) is_given
        (answer ∙ ap (λ rs. Ok (record { library = next; replies = rs })) (sym is_shown ∙ same.0 t ∙ is_others)),
  )),
  (λ h. let e = ap (λ xs. apply s lib xs) (sym is_given) in let all = sym answer ∙ sym e ∙ h.1 in
      let one : applied next made ≡ applied h.0 replies = cc in
      let k : made ≡ replies = ap (λ (a : Applied). a.replies) one in
      same.1 (is_shown ∙ k ∙ sym is_others)),
)

-- ---- the first entry that differs is one

module _ (s : Setting) (lib : List Ranked) (h : List Entry) where
  -- a legal history has none that differs
  pub no_first_differing : (n : ℕ) → IsLegal s lib h → IsFirstDiffering s lib h n → ⊥
  no_first_differing n legal first =
      let repeated = legal first.place first.commands first.replies first.stands in first.differs repeated.0 repeated.1

  -- none stands before another
  not_before : (m n : ℕ) (a : IsFirstDiffering s lib h m) (b : IsFirstDiffering s lib h n) → a.place < b.place → ⊥
  not_before m n a b lt =
      let repeated = b.before a.place a.commands a.replies (get_in_front h a.place b.place lt ∙ a.stands) in
      a.differs repeated.0
      (ap (λ g. apply s (after_all s lib g) a.commands) (sym (take-take a.place b.place h (omega arith))) ∙ repeated.1)

  pub one_first_differing : (m n : ℕ) → IsFirstDiffering s lib h m → IsFirstDiffering s lib h n → m ≡ n
  one_first_differing m n a b =
      let up = not_before m n a b in
      let down = not_before n m b a in
      let first = a.counted in
      let second = b.counted in
      let one : a.place ≡ b.place = one_place a.place b.place up down in
      omega arith
    where
      one_place : (i j : ℕ) → (i < j → ⊥) → (j < i → ⊥) → i ≡ j
      one_place i j up down = elim (cases_order i j) [ inl e ↦ e | inr (inl lt) ↦ absurd (up lt) | inr (inr lt) ↦ absurd (down lt) ]
