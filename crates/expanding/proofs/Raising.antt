-- Who may have labels: more of them.
use Rattle.std.proofs.Common.{get_or, ◌≡◌, ◌∙◌, ◌+◌, ◌≤◌, ◌<◌, ℕ, Bool, true, false, cond, List, [], ◌∷◌, ◌++◌, length, Option, Some, refl, sym, ap, subst, arith, Bor}
use Rattle.std.proofs.Common.{inl, inr}
use Rattle.std.specs.Prelude.{Contains, ◌⊎◌, ◌||◌, IsTrue}
use Rattle.std.specs.List.{All}
use Rattle.std.specs.Str.{bytes_eq}
use Rattle.std.specs.HashMap as hash
use Rattle.std.proofs.lemmas.Map.Text.{hash_map_updates_str}
use Rattle.std.proofs.lemmas.List.{length_push, length-map, get_or-map}
use Rattle.std.proofs.lemmas.List.Elements.{All-head, All-tail, All-weaker, Contains-append_left, Contains-append_right, Contains-push, Contains-push_cases, Contains-append_cases, Contains-get_or}
use Rattle.std.proofs.lemmas.Cmp.{nat_list_eq_equiv}
use Rattle.mmtext.specs.Words.{Word}
use Rattle.mmsyntax.proofs.Names.{same_bytes}
use Rattle.source.specs.Scopes.{is_in}
use Rattle.source.specs.Views.{seen_words}
use Rattle.expanding.specs.Called.{new_labels, Lead, MayBeCalled, Bearers, nobody, only, several, AreBearers}
use Rattle.expanding.specs.Bearing.{Called, seen_bearers, bearers_in, bearers_for, AreAmong, room, rooms, AreBacked, AllBacked, Rises, IsSpreadBut}
use Rattle.expanding.specs.declared.bearers.Bearers.{Bearers as CodeBearers}

-- ---- words in a list

pub one_of : (y x : Word) (ys : List Word) → Contains (y ∷ ys) x → (y ≡ x) ⊎ Contains ys x
one_of y x ys h = elim (Contains-append_cases (y ∷ []) ys x h) [
  | inl c ↦ elim (Contains-push_cases [] y x c) [ inl none ↦ absurd (let bad = none.1 in omega (arith, bad)) | inr e ↦ inl e ]
  | inr c ↦ inr c
]

pub first_in : (a b : Bool) → a ≡ true → IsTrue (a || b)
first_in true b h = refl
first_in false b h = absurd (let bad = h in cc)

pub later_in : (a b : Bool) → b ≡ true → IsTrue (a || b)
later_in true b h = refl
later_in false b h = h

pub is_among : (ws : List Word) (x : Word) → Contains ws x → IsTrue (is_in ws x)
is_among [] x h = absurd (let bad = h.1 in omega (arith, bad))
is_among (w ∷ ws) x h = elim (one_of w x ws h) [
  | inl same ↦ first_in (bytes_eq x w) (is_in ws x) (subst (λ y. bytes_eq x y ≡ true) (sym same) (nat_list_eq_equiv.refl x))
  | inr later ↦ later_in (bytes_eq x w) (is_in ws x) (is_among ws x later)
]

-- ---- among

pub among_itself : (b : Bearers) → AreAmong b b
among_itself nobody = tt
among_itself (only a) = refl
among_itself several = tt

pub among_equal : (a b : Bearers) → b ≡ a → AreAmong a b
among_equal a b same = subst (λ x. AreAmong a x) (sym same) (among_itself a)

pub among_among : (a b c : Bearers) → AreAmong a b → AreAmong b c → AreAmong a c
among_among nobody b c h k = tt
among_among (only x) nobody c h k = absurd h
among_among (only x) (only y) nobody h k = absurd k
among_among (only x) (only y) (only z) h k = h ∙ k
among_among (only x) (only y) several h k = tt
among_among (only x) several nobody h k = absurd k
among_among (only x) several (only z) h k = absurd k
among_among (only x) several several h k = tt
among_among several nobody c h k = absurd h
among_among several (only y) c h k = absurd h
among_among several several nobody h k = absurd k
among_among several several (only z) h k = absurd k
among_among several several several h k = tt

-- ---- room

pub room_down : (a b : Bearers) → AreAmong a b → room b ≤ room a
room_down nobody nobody h = omega arith
room_down nobody (only b) h = omega arith
room_down nobody several h = omega arith
room_down (only a) nobody h = absurd h
room_down (only a) (only b) h = omega arith
room_down (only a) several h = omega arith
room_down several nobody h = absurd h
room_down several (only b) h = absurd h
room_down several several h = omega arith

pub same_room : (a b : Bearers) → AreAmong a b → room a ≤ room b → b ≡ a
same_room nobody nobody h k = refl
same_room nobody (only b) h k = absurd (omega (arith, k))
same_room nobody several h k = absurd (omega (arith, k))
same_room (only a) nobody h k = absurd h
same_room (only a) (only b) h k = ap only (sym h)
same_room (only a) several h k = absurd (omega (arith, k))
same_room several nobody h k = absurd h
same_room several (only b) h k = absurd h
same_room several several h k = refl

module _ (f g : Word → Bearers) (up : (w : Word) → AreAmong (f w) (g w)) where
  pub rooms_down : (ws : List Word) → rooms g ws ≤ rooms f ws
  rooms_down [] = omega arith
  rooms_down (w ∷ ws) =
      let one = room_down (f w) (g w) (up w) in
      let rest = rooms_down ws in
      omega arith

  pub rooms_less : (ws : List Word) (x : Word) → Contains ws x → room (g x) < room (f x) → rooms g ws < rooms f ws
  rooms_less [] x h less = absurd (let bad = h.1 in omega (arith, bad))
  rooms_less (w ∷ ws) x h less = elim (one_of w x ws h) [
    | inl same ↦
        let here : room (g w) < room (f w) = subst (λ y. room (g y) < room (f y)) (sym same) less in
        let rest = rooms_down ws in
        omega arith
    | inr later ↦
        let one = room_down (f w) (g w) (up w) in
        let rest = rooms_less ws x later less in
        omega arith
  ]

-- ---- one label more

through : (b : Bool) (x : CodeBearers) (o : Option CodeBearers) → bearers_in (cond b (Some x) o) ≡ cond b (seen_bearers x) (bearers_in o)
through true x o = refl
through false x o = refl

pub bearers_put : (m n : Called) (x : Word) (b : CodeBearers)
    → hash.UpdatesBy (λ a b. bytes_eq a.now b.now) (λ a. bytes_eq x a.now) m n (Some b)
    → (w : Word) → bearers_for n w ≡ cond (bytes_eq x w) (seen_bearers b) (bearers_for m w)
bearers_put m n x b put w =
    ap bearers_in (hash_map_updates_str x m n (Some b) put w)
    ∙ through (bytes_eq x w) b (hash.get_by (λ a. bytes_eq w a.now) m)

module _ (f g : Word → Bearers) (x : Word) (b : Bearers) (put : (w : Word) → g w ≡ cond (bytes_eq x w) b (f w)) where
  pub put_there : g x ≡ b
  put_there = put x ∙ ap (λ t. cond t b (f x)) (nat_list_eq_equiv.refl x)

  put_by : (P : Word → Bearers → Type 0) → P x b → ((w : Word) → P w (f w)) → (w : Word) → P w (g w)
  put_by P at_x others w = subst (P w) (sym (put w)) (at (bytes_eq x w) refl)
    where
      at : (t : Bool) → bytes_eq x w ≡ t → P w (cond t b (f w))
      at true same = subst (λ y. P y b) (same_bytes x w same) at_x
      at false other = others w

  pub put_up : AreAmong (f x) b → (w : Word) → AreAmong (f w) (g w)
  put_up more w = put_by (λ v c. AreAmong (f v) c) more (λ v. among_itself (f v)) w

  pub put_backed : (rs : List (Word × Word)) (test : Word → Bool) → AllBacked rs test f → AreBacked rs test x b → AllBacked rs test g
  put_backed rs test all one = put_by (AreBacked rs test) one all

  noted_by : (todo : List Word) (w : Word) → Contains (todo ++ x ∷ []) w ⊎ (g w ≡ f w)
  noted_by todo w = at (bytes_eq x w) refl
    where
      at : (t : Bool) → bytes_eq x w ≡ t → Contains (todo ++ x ∷ []) w ⊎ (g w ≡ f w)
      at true same = inl (subst (λ y. Contains (todo ++ x ∷ []) y) (same_bytes x w same) (Contains-push todo x))
      at false other = inr (put w ∙ ap (λ t. cond t b (f w)) other)

  pub put_rises : (todo after : List Word) → after ≡ todo ++ x ∷ [] → AreAmong (f x) b → room b < room (f x)
      → Rises (x ∷ []) f g todo after
  put_rises todo after pushed more less = record {
    up = put_up more;
    kept = λ w h. subst (λ l. Contains l w) (sym pushed) (Contains-append_left todo (x ∷ []) w h);
    noted = λ w. subst (λ l. Contains l w ⊎ (g w ≡ f w)) (sym pushed) (noted_by todo w);
    less = λ ws among.
        let longer : length after ≡ length todo + 1 = ap length pushed ∙ length_push todo x in
        let fewer : rooms g ws < rooms f ws =
        rooms_less f g (put_up more) ws x (among x (Contains-push [] x)) (subst (λ c. room c < room (f x)) (sym put_there) less) in
        omega arith;
  }

pub rises_not : (at : List Word) (f : Word → Bearers) (todo : List Word) → Rises at f f todo todo
rises_not at f todo = record {
  up = λ w. among_itself (f w);
  kept = λ w h. h;
  noted = λ w. inr refl;
  less = λ ws among. omega arith;
}

-- ---- one after the other

noted_twice : (before middle after : List Word) (w : Word) (a b c : Bearers) → (Contains middle w → Contains after w)
    → Contains middle w ⊎ (b ≡ a) → Contains after w ⊎ (c ≡ b) → Contains after w ⊎ (c ≡ a)
noted_twice before middle after w a b c keep (inl h) k = inl (keep h)
noted_twice before middle after w a b c keep (inr e) (inl k) = inl k
noted_twice before middle after w a b c keep (inr e) (inr k) = inr (k ∙ e)

pub rises_more : (at : List Word) (x : Word) (f g h : Word → Bearers) (a b c : List Word) → Rises at f g a b → Rises (x ∷ []) g h b c
    → Rises (at ++ x ∷ []) f h a c
rises_more at x f g h a b c first then = record {
  up = λ w. among_among (f w) (g w) (h w) (first.up w) (then.up w);
  kept = λ w k. then.kept w (first.kept w k);
  noted = λ w. noted_twice a b c w (f w) (g w) (h w) (then.kept w) (first.noted w) (then.noted w);
  less = λ ws among.
      let one = first.less ws (λ w k. among w (Contains-append_left at (x ∷ []) w k)) in
      let two = then.less ws (λ w k. among w (Contains-append_right at (x ∷ []) w k)) in
      omega arith;
}

pub raised_more : (front : List Word) (x : Word) (b : Bearers) (f g : Word → Bearers) (w : Word)
    → ((v : Word) → Contains front v → AreAmong b (f v)) → ((v : Word) → AreAmong (f v) (g v)) → AreAmong b (g x)
    → Contains (front ++ x ∷ []) w → AreAmong b (g w)
raised_more front x b f g w each up one h = elim (Contains-push_cases front x w h) [
  | inl k ↦ among_among b (f w) (g w) (each w k) (up w)
  | inr e ↦ subst (λ y. AreAmong b (g y)) e one
]

pub all_among : (f g : Word → Bearers) (ws : List Word) → ((w : Word) → AreAmong (f w) (g w)) → All (λ w. AreAmong (only w) (f w)) ws
    → All (λ w. AreAmong (only w) (g w)) ws
all_among f g ws up =
    All-weaker (λ w. AreAmong (only w) (f w)) (λ w. AreAmong (only w) (g w)) (λ w h. among_among (only w) (f w) (g w) h (up w)) ws

-- ---- a label that is gone on from

module _ (rs : List (Word × Word)) (f g : Word → Bearers) (x : Word) (todo rest after : List Word) (popped : todo ≡ rest ++ x ∷ [])
    (rises : Rises (new_labels rs x) f g rest after) where
  pub spread_more : ((w : Word) → Contains (new_labels rs x) w → AreAmong (f x) (g w)) → IsSpreadBut rs f todo → IsSpreadBut rs g after
  spread_more raised spread u v h = elim (rises.noted u) [
    | inl there ↦ inl there
    | inr same ↦ elim (spread u v h) [
      | inl left ↦ elim (Contains-push_cases rest x u (subst (λ l. Contains l u) popped left)) [
        | inl k ↦ inl (rises.kept u k)
        | inr e ↦
            let one : AreAmong (f x) (g v) = raised v (subst (λ y. Contains (new_labels rs y) v) (sym e) h) in
            let now : AreAmong (f u) (g v) = subst (λ y. AreAmong (f y) (g v)) e one in
            inr (subst (λ b. AreAmong b (g v)) (sym same) now)
      ]
      | inr among ↦
          let now : AreAmong (f u) (g v) = among_among (f u) (f v) (g v) among (rises.up v) in
          inr (subst (λ b. AreAmong b (g v)) (sym same) now)
    ]
  ]

  pub fewer_left : (ws : List Word) → ((w : Word) → Contains (new_labels rs x) w → Contains ws w)
      → length after + rooms g ws < length todo + rooms f ws
  fewer_left ws among =
      let less = rises.less ws among in
      let longer : length todo ≡ length rest + 1 = ap length popped ∙ length_push rest x in
      omega arith

-- one of the words of the code is one of them as the rules see them
pub seen_member : (ws : List (Bor (List ℕ))) (i : ℕ) (d : Bor (List ℕ)) → i < length ws → Contains (seen_words ws) (get_or ws i d).now
seen_member ws i d within =
    let at : get_or (seen_words ws) i d.now ≡ (get_or ws i d).now = get_or-map (λ (v : Bor (List ℕ)). v.now) ws i d d.now within in
    let long : length (seen_words ws) ≡ length ws = length-map ws (λ (v : Bor (List ℕ)). v.now) in
    let inside : i < length (seen_words ws) = omega arith in
    subst (Contains (seen_words ws)) at (Contains-get_or (seen_words ws) i d.now inside)

-- ---- one rename more

lead_more : (rs : List (Word × Word)) (row : List Word) (from x w : Word) → Lead rs from row x → Contains (new_labels rs x) w
    → Lead rs from (row ++ w ∷ []) w
lead_more rs [] from x w lead h = (subst (λ y. Contains (new_labels rs y) w) (sym lead) h, refl)
lead_more rs (next ∷ row) from x w lead h = (lead.0, lead_more rs row next x w lead.1 h)

called_more : (rs : List (Word × Word)) (a x w : Word) → MayBeCalled rs a x → Contains (new_labels rs x) w → MayBeCalled rs a w
called_more rs a x w called h = record { row = called.row ++ w ∷ []; lead = lead_more rs called.row a x w called.lead h }

pub next_backed : (rs : List (Word × Word)) (test : Word → Bool) (x w : Word) (b : Bearers) → Contains (new_labels rs x) w
    → AreBacked rs test x b → AreBacked rs test w b
next_backed rs test x w nobody h k = tt
next_backed rs test x w (only a) h k = (k.0, called_more rs a x w k.1 h)
next_backed rs test x w several h k =
    (k.0, k.1, k.2, called_more rs k.0 x w k.3 h, k.4, called_more rs k.1 x w k.5 h, k.6)

-- ---- all that may have a label

module _ (rs : List (Word × Word)) (f : Word → Bearers) (spread : IsSpreadBut rs f []) where
  none_left : {X : Type 0} (x : Word) → Contains [] x → X
  none_left x h = absurd (let bad = h.1 in omega (arith, bad))

  closed : (u v : Word) → Contains (new_labels rs u) v → AreAmong (f u) (f v)
  closed u v h = elim (spread u v h) [ inl none ↦ none_left u none | inr k ↦ k ]

  reached : (row : List Word) (b : Bearers) (a w : Word) → AreAmong b (f a) → Lead rs a row w → AreAmong b (f w)
  reached [] b a w h lead = subst (λ y. AreAmong b (f y)) lead h
  reached (next ∷ row) b a w h lead =
      reached row b next w (among_among b (f a) (f next) h (closed a next lead.0)) lead.1

  one_member : (P : Word → Type 0) (a w : Word) (t rest : Bool) → bytes_eq a w ≡ t → IsTrue (t || rest) → P w
      → (IsTrue rest → P a) → P a
  one_member P a w true rest same h here later = subst P (sym (same_bytes a w same)) here
  one_member P a w false rest other h here later = later h

  member : (P : Word → Type 0) (ws : List Word) (a : Word) → IsTrue (is_in ws a) → All P ws → P a
  member P [] a h all = absurd (let bad = h in cc)
  member P (w ∷ ws) a h all =
      one_member P a w (bytes_eq a w) (is_in ws a) refl h (All-head P w ws all) (λ k. member P ws a k (All-tail P w ws all))

  all_of : (test : Word → Bool) (w : Word) (b : Bearers) → AreBacked rs test w b
      → ((a : Word) → IsTrue (test a) → MayBeCalled rs a w → AreAmong (only a) b) → AreBearers rs test w b
  all_of test w nobody backed each = each
  all_of test w (only a) backed each = (backed.0, backed.1, each)
  all_of test w several backed each = backed

  pub are_bearers : (labels : List Word) → All (λ a. AreAmong (only a) (f a)) labels → AllBacked rs (is_in labels) f
      → (w : Word) → AreBearers rs (is_in labels) w (f w)
  are_bearers labels all backed w =
      all_of (is_in labels) w (f w) (backed w)
      (λ a there called. reached called.row (only a) a w (member (λ v. AreAmong (only v) (f v)) labels a there all) called.lead)
