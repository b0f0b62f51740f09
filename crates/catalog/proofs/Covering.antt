-- Who may cite whom: the lists of citers cover the assertions, also after a change of one place.
use Rattle.std.proofs.Common.{◌≡◌, ℕ, ◌<◌, true, false, List, [], ◌∷◌, ◌++◌, Vec, None, Some, length, map, set, sym, ap, subst}
use Rattle.std.proofs.Common.{◌∙◌, ◌⊎◌, inl, inr, arith}
use Rattle.std.specs.Prelude.{◌||◌}
use Rattle.std.specs.List.{All, Contains, slice_get}
use Rattle.std.proofs.lemmas.List.Elements.{All-head, All-tail}
use Rattle.std.specs.declared.alloc.Global.{Global}
use Rattle.std.proofs.lemmas.Bool.{cases_Bool, cases_eq, both_ways}
use Rattle.std.proofs.lemmas.Option.{slice_get_within}
use Rattle.std.specs.Str.{bytes_eq}
use Rattle.mmsyntax.specs.declared.statement.Step.{Step}
use Rattle.mmsyntax.specs.declared.statement.Step.TheVariants.{Float, Hyp, Cite}
use Rattle.mmsyntax.specs.ProofWords.{IsCitedIn}
use Rattle.mmsyntax.proofs.Names.{same_bytes}
use Rattle.library.specs.declared.library.Ranked.{Ranked}
use Rattle.library.specs.Library.{label_of}
use Rattle.library.specs.Edits.{is_citation, cites}
use Rattle.library.proofs.Citations.{none_contained}
use Rattle.library.proofs.Filtered.{contains_mapped}
use Rattle.catalog.specs.Entries.{Entries, StandsIn}
use Rattle.catalog.specs.Places.{Places, IsIndex, StandsAt}
use Rattle.catalog.specs.Listing.{some_cites}
use Rattle.catalog.specs.Citers.{Citers, IsCiter, Covers, KeepsCiters, AreEntered, HasAllCiters}
use Rattle.catalog.specs.Changes.{with_label}
use Rattle.catalog.proofs.Changing.{get-set_same, get-set_other, get-set_is, get-left}
use Rattle.catalog.proofs.Indexes.{pushed-cases}
use Rattle.catalog.proofs.Living.{one-place}

-- ---- lists that grow

pub keeps-all : (citers : Citers) → KeepsCiters citers citers
keeps-all citers = record { keeps = λ p q h. h }

pub keeps-on : (a b c : Citers) → KeepsCiters a b → KeepsCiters b c → KeepsCiters a c
keeps-on a b c h k = record { keeps = λ p q at. k.keeps p q (h.keeps p q at) }

-- one list has more
pub keeps-set : (citers : Citers) (p : ℕ) (old new : Vec ℕ Global) → slice_get citers p ≡ Some old
    → ((q : ℕ) → Contains old.items q → Contains new.items q) → KeepsCiters citers (set citers p new)
keeps-set citers p old new at more = record {
  keeps = λ r q h. elim (cases_eq r p) [
    | inl same ↦
        let both : Some h.list ≡ Some old = sym h.at ∙ ap (slice_get citers) same ∙ at in
        let one : h.list ≡ old = cc in
        record {
          list = new;
          at = ap (slice_get (set citers p new)) same ∙ get-set_same citers p new (slice_get_within citers p old at);
          member = more q (subst (λ (l : Vec ℕ Global). Contains l.items q) one h.member);
        }
    | inr ne ↦ record { list = h.list; at = get-set_other citers p r new ne ∙ h.at; member = h.member }
  ];
}

-- one more list
pub keeps-pushed : (citers : Citers) (last : Vec ℕ Global) → KeepsCiters citers (citers ++ last ∷ [])
keeps-pushed citers last = record {
  keeps = λ p q h. record { list = h.list; at = get-left citers (last ∷ []) p h.list h.at; member = h.member };
}

-- a place of an assertion has a list
pub list-within : (cs : Citers) (es : Entries) (w : List ℕ) (p : ℕ) → StandsAt es w p → length cs ≡ length es → p < length cs
list-within cs es w p s long = let within = slice_get_within es p (Some s.entry) s.at in omega (arith, long)

-- ---- what is covered

pub covers-kept : (c d : Citers) (es : Entries) → KeepsCiters c d → Covers c es → Covers d es
covers-kept c d es k h = record { listed = λ p q e f at_p at_q cited. k.keeps p q (h.listed p q e f at_p at_q cited) }

-- fewer assertions
pub covers-fewer : (c : Citers) (es fewer : Entries) → ((q : ℕ) (f : Ranked) → StandsIn fewer q f → StandsIn es q f) → Covers c es
    → Covers c fewer
covers-fewer c es fewer there h = record {
  listed = λ p q e f at_p at_q cited. h.listed p q e f (there p e at_p) (there q f at_q) cited;
}

pub covers-removed : (c : Citers) (es : Entries) (p : ℕ) → Covers c es → Covers c (set es p None)
covers-removed c es p h = covers-fewer c es (set es p None) (λ q f at. elim (cases_eq q p) [
  | inl same ↦
      let none : None ≡ Some f = get-set_is es p None (Some f) (subst (λ (k : ℕ). StandsIn (set es p None) k f) same at) in
      absurd cc
  | inr ne ↦ sym (get-set_other es p q None ne) ∙ at
]) h

pub stands-opened : (es : Entries) (q : ℕ) (f : Ranked) → StandsIn (es ++ None ∷ []) q f → StandsIn es q f
stands-opened es q f at = elim (pushed-cases es None q f at) [
  | inl was ↦ was
  | inr last ↦ absurd (let none : None ≡ Some f = last.1 in cc)
]

pub covers-opened : (c : Citers) (es : Entries) → Covers c es → Covers c (es ++ None ∷ [])
covers-opened c es h = covers-fewer c es (es ++ None ∷ []) (stands-opened es) h

-- in the list of an assertion stand all whose proof cites it
pub all-listed : (c : Citers) (es : Entries) (p : ℕ) (e : Ranked) (list : Vec ℕ Global) → Covers c es → StandsIn es p e
    → slice_get c p ≡ Some list → HasAllCiters es (label_of e) list.items
all-listed c es p e list h at own = record {
  all = λ q f at_q here.
      let member = h.listed p q e f at at_q here in
      let both : Some member.list ≡ Some list = sym member.at ∙ own in
      let one : member.list ≡ list = cc in
      subst (λ (l : Vec ℕ Global). Contains l.items q) one member.member;
}

-- ---- a place has another assertion

-- what stands at a place after it was given an assertion: that one, or what stood there
stands-set : (es : Entries) (p q : ℕ) (new f : Ranked) → StandsIn (set es p (Some new)) q f
    → ((q ≡ p) × (new ≡ f)) ⊎ ((q ≡ p → ⊥) × StandsIn es q f)
stands-set es p q new f at = elim (cases_eq q p) [
  | inl same ↦
      let one : Some new ≡ Some f = get-set_is es p (Some new) (Some f) (subst (λ (k : ℕ). StandsIn (set es p (Some new)) k f) same at) in
      let own : new ≡ f = cc in
      inl (same, own)
  | inr ne ↦ inr (ne, sym (get-set_other es p q (Some new) ne) ∙ at)
]

module _ (c : Citers) (es : Entries) (p : ℕ) (new : Ranked) (h : Covers c es) where
  -- those who cite it stand in its list, and it stands in the lists of those that it cites
  pub covers-set : ((q : ℕ) (f : Ranked) → StandsIn es q f → cites (label_of new) f ≡ true → IsCiter c p q)
      → ((r : ℕ) (e : Ranked) → StandsIn es r e → cites (label_of e) new ≡ true → IsCiter c r p)
      → (cites (label_of new) new ≡ true → IsCiter c p p) → Covers c (set es p (Some new))
  covers-set citing cited own = record {
    listed = λ r q e f at_r at_q here.
        elim (stands-set es p r new e at_r) [
          | inl first ↦
              let here' : cites (label_of new) f ≡ true = subst (λ (x : Ranked). cites (label_of x) f ≡ true) (sym first.1) here in
              subst (λ k. IsCiter c k q) (sym first.0) (elim (stands-set es p q new f at_q) [
                | inl second ↦
                    subst (λ k. IsCiter c p k) (sym second.0) (own (subst (λ (x : Ranked). cites (label_of new) x
                    ≡ true) (sym second.1) here'))
                | inr other ↦ citing q f other.1 here'
              ])
          | inr there ↦
              elim (stands-set es p q new f at_q) [
                | inl second ↦
                    subst (λ k. IsCiter c r k) (sym second.0)
                    (cited r e there.1 (subst (λ (x : Ranked). cites (label_of e) x ≡ true) (sym second.1) here))
                | inr other ↦ h.listed r q e f there.1 other.1 here
              ]
        ];
  }

  -- one whose label no proof cites
  pub covers-fresh : ((q : ℕ) (f : Ranked) → StandsIn es q f → cites (label_of new) f ≡ false) → cites (label_of new) new ≡ false
      → ((r : ℕ) (e : Ranked) → StandsIn es r e → cites (label_of e) new ≡ true → IsCiter c r p) → Covers c (set es p (Some new))
  covers-fresh free own cited =
      covers-set (λ q f at here. absurd (both_ways (cites (label_of new) f) (free q f at) here)) cited
      (λ here. absurd (both_ways (cites (label_of new) new) own here))

  -- one in the stead of another of the same label
  pub covers-replaced : (former : Ranked) → StandsIn es p former → label_of new ≡ label_of former
      → ((r : ℕ) (e : Ranked) → StandsIn es r e → cites (label_of e) new ≡ true → IsCiter c r p) → Covers c (set es p (Some new))
  covers-replaced former at labelled cited =
      covers-set (λ q f here cites_it. h.listed p q former f at here (subst (λ w. cites w f ≡ true) labelled cites_it)) cited
      (λ cites_it. cited p former at (subst (λ w. cites w new ≡ true) labelled cites_it))

-- ---- what steps cite

-- the one that a step cites is the one that was looked up
pub entered-cited : (c : Citers) (m : Places) (es : Entries) (w : List ℕ) (p q : ℕ) → IsIndex m es → StandsAt es w p → IsCiter c p q
    → AreEntered c es (Cite w ∷ []) q
entered-cited c m es w p q x s h = record {
  entered = λ r e at here.
      elim (cases_Bool (bytes_eq (label_of e) w)) [
        | inl y ↦
            let place = one-place m es r p e s.entry x at s.at (same_bytes (label_of e) w y ∙ sym s.labelled) in
            subst (λ k. IsCiter c k q) (sym place) h
        | inr n ↦ absurd (both_ways (some_cites (Cite w ∷ []) (label_of e)) (ap (λ b. b || false) n) here)
      ];
}

-- one that cites no assertion
pub entered-unknown : (c : Citers) (es : Entries) (s : Step) (q : ℕ)
    → ((p : ℕ) (e : Ranked) → StandsIn es p e → is_citation (label_of e) s ≡ false)
    → AreEntered c es (s ∷ []) q
entered-unknown c es s q none = record {
  entered = λ p e at here. absurd (both_ways (some_cites (s ∷ []) (label_of e)) (ap (λ b. b || false) (none p e at)) here);
}

-- ---- one step more

pub none-entered : (c : Citers) (es : Entries) (q : ℕ) → AreEntered c es [] q
none-entered c es q = record { entered = λ p e at here. absurd cc }

-- some step of the front cites a label, or the last one
push-cases : (steps : List Step) (s : Step) (w : List ℕ) → some_cites (steps ++ s ∷ []) w ≡ true
    → (some_cites steps w ≡ true) ⊎ (some_cites (s ∷ []) w ≡ true)
push-cases [] s w h = inr h
push-cases (t ∷ ts) s w h =
    elim (cases_Bool (is_citation w t)) [
      | inl y ↦ inl (ap (λ b. b || some_cites ts w) y)
      | inr n ↦
          elim (push-cases ts s w (sym (ap (λ b. b || some_cites (ts ++ s ∷ []) w) n) ∙ h)) [
            | inl front ↦ inl (ap (λ b. b || some_cites ts w) n ∙ front)
            | inr last ↦ inr last
          ]
    ]

pub entered-push : (c d : Citers) (es : Entries) (steps : List Step) (s : Step) (q : ℕ) → KeepsCiters c d → AreEntered c es steps q
    → AreEntered d es (s ∷ []) q → AreEntered d es (steps ++ s ∷ []) q
entered-push c d es steps s q k h last = record {
  entered = λ p e at here. elim (push-cases steps s (label_of e) here) [
    | inl front ↦ k.keeps p q (h.entered p e at front)
    | inr own ↦ last.entered p e at own
  ];
}

-- ---- the labels that a proof lists

-- a label that steps cite is among those that they list
some-listed : (labels : List (List ℕ)) (w : List ℕ) (steps : List Step) → All (IsCitedIn labels) steps → some_cites steps w ≡ true
    → some_cites (map Cite labels) w ≡ true
some-listed labels w [] all h = absurd cc
some-listed labels w (Float i ∷ steps) all h = some-listed labels w steps (All-tail (IsCitedIn labels) (Float i) steps all) h
some-listed labels w (Hyp k ∷ steps) all h = some-listed labels w steps (All-tail (IsCitedIn labels) (Hyp k) steps all) h
some-listed labels w (Cite l ∷ steps) all h =
    let there = contains_mapped Cite labels l (All-head (IsCitedIn labels) (Cite l) steps all) in
    let rest = All-tail (IsCitedIn labels) (Cite l) steps all in
    elim (cases_Bool (some_cites (map Cite labels) w)) [
      | inl y ↦ y
      | inr none ↦
          let other : bytes_eq w l ≡ false = none_contained (is_citation w) (map Cite labels) (Cite l) none there in
          some-listed labels w steps rest (sym (ap (λ b. b || some_cites steps w) other) ∙ h)
    ]

pub entered-listed : (c : Citers) (es : Entries) (labels : List (List ℕ)) (steps : List Step) (q : ℕ) → All (IsCitedIn labels) steps
    → AreEntered c es (map Cite labels) q → AreEntered c es steps q
entered-listed c es labels steps q all h = record {
  entered = λ p e at here. h.entered p e at (some-listed labels (label_of e) steps all here);
}

-- ---- an assertion has another label

-- the same places have all that cite another label
pub all-relabelled : (es : Entries) (p : ℕ) (e : Ranked) (old new places : List ℕ) → HasAllCiters es old places → StandsIn es p e
    → HasAllCiters (set es p (Some (with_label new e))) old places
all-relabelled es p e old new places h at = record {
  all = λ q f at_q here. elim (stands-set es p q (with_label new e) f at_q) [
    | inl own ↦
        subst (λ k. Contains places k) (sym own.0) (h.all p e at (subst (λ (x : Ranked). cites old x ≡ true) (sym own.1) here))
    | inr other ↦ h.all q f other.1 here
  ];
}
