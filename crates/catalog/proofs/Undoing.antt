-- Changes taken back: from the last to the first, they give the library before them.
use Rattle.std.proofs.Common.{◌≡◌, ℕ, ◌⊎◌, List, [], ◌∷◌, ◌++◌, Option, None, Some, length, set, take, drop}
use Rattle.std.proofs.Common.{arith, refl, sym, ap, subst, ◌∙◌, inl, inr}
use Rattle.std.specs.List.{slice_get}
use Rattle.std.specs.Str.{bytes_eq}
use Rattle.std.specs.Option.{IsSome}
use Rattle.std.proofs.lemmas.List.{length-set, length-append, map-append, take-append-le, take_all}
use Rattle.std.proofs.lemmas.Bool.{cases_Bool, cases_eq, cond-false}
use Rattle.std.proofs.lemmas.Option.{slice_get_within}
use Rattle.mmsyntax.proofs.Names.{same_bytes}
use Rattle.mmsyntax.specs.declared.statement.Frame.{Frame}
use Rattle.mmsyntax.specs.Tables.{Tables}
use Rattle.mmframes.specs.Frames.{frame}
use Rattle.library.specs.declared.library.Ranked.{Ranked}
use Rattle.library.specs.Library.{label_of}
use Rattle.catalog.specs.declared.notes.Note.{Note}
use Rattle.catalog.specs.Entries.{Entries, StandsIn, AreFramed}
use Rattle.catalog.specs.Places.{Places, place_in, IsIndex, HasOnly, StandsSomewhere, KeepsLabels, Puts}
use Rattle.catalog.specs.Changes.{taken_back, undone, formers, CanStand, CanTakeBack, CanUndo, AreNotesFramed, IsForgotten}
use Rattle.catalog.proofs.Changing.{get-set_same, get-set_other, get-set_is, set-left, get-left, get-last}
use Rattle.catalog.proofs.Indexes.{PutsAt, stands-alone, pushed-cases}

-- ---- one more change

pub undone-push : (ns : List Note) (n : Note) (es : Entries) → undone (ns ++ n ∷ []) es ≡ undone ns (taken_back n es)
undone-push [] n es = refl
undone-push (k ∷ ns) n es = ap (taken_back k) (undone-push ns n es)

pub can_undo-push : (m : Places) (ns : List Note) (n : Note) (es : Entries) → CanUndo m ns (taken_back n es)
    → CanTakeBack m es n → CanUndo m (ns ++ n ∷ []) es
can_undo-push m [] n es h c = (tt, c)
can_undo-push m (k ∷ ns) n es h c = (can_undo-push m ns n es h.0 c, subst (λ l. CanTakeBack m l k) (sym (undone-push ns n es)) h.1)

pub can_undo-split : (m : Places) (ns : List Note) (n : Note) (es : Entries) → CanUndo m (ns ++ n ∷ []) es
    → CanUndo m ns (taken_back n es) × CanTakeBack m es n
can_undo-split m [] n es h = (tt, h.1)
can_undo-split m (k ∷ ns) n es h =
    let rest = can_undo-split m ns n es h.0 in
    ((rest.0, subst (λ l. CanTakeBack m l k) (undone-push ns n es) h.1), rest.1)

-- a map with more labels serves as well
can_stand-kept : (m n : Places) (es : Entries) (p : ℕ) (o : Option Ranked) → KeepsLabels m n → CanStand m es p o → CanStand n es p o
can_stand-kept m n es p None k c = tt
can_stand-kept m n es p (Some e) k c = (c.0, k.keeps (label_of e) c.1)

pub can_undo-kept : (m n : Places) (ns : List Note) (es : Entries) → KeepsLabels m n → CanUndo m ns es → CanUndo n ns es
can_undo-kept m n [] es k h = tt
can_undo-kept m n (x ∷ ns) es k h = (
  can_undo-kept m n ns es k h.0,
  record { within = h.1.within; stands = can_stand-kept m n (undone ns es) x.place x.former k h.1.stands },
)

-- what stood at a place can be put there again
pub can_take_back : (m n : Places) (es : Entries) (p : ℕ) (former new : Option Ranked) → IsIndex m es → slice_get es p ≡ Some former
    → KeepsLabels m n → CanTakeBack n (set es p new) (record { place = p; former = former })
can_take_back m n es p former new x at k = record {
  within = (let lt = slice_get_within es p former at in omega (arith, length-set es p new));
  stands = stands former at;
}
  where
    stands : (o : Option Ranked) → slice_get es p ≡ Some o → CanStand n (set es p new) p o
    stands None at = tt
    stands (Some e) at =
        let alone = stands-alone m es p e x at in (
          record { others = λ q f here ne. alone.others q f (sym (get-set_other es p q new ne) ∙ here) ne },
          k.keeps (label_of e) (subst (λ o. IsSome o) (sym (x.finds p e at)) refl),
        )

-- ---- the labels that the map has

pub formers-push : (ns : List Note) (n : Note) → formers (ns ++ n ∷ []) ≡ formers ns ++ n.former ∷ []
formers-push ns n = map-append (λ k. k.former) ns (n ∷ [])

-- a map with no other label serves as well
pub only-fewer : (m n : Places) (es fs : Entries) → KeepsLabels n m → HasOnly m es fs → HasOnly n es fs
only-fewer m n es fs k h = record { among = λ q some. h.among q (k.keeps q some) }

-- what stood at a place, where something else does now
moved : (es : Entries) (p : ℕ) (former new : Option Ranked) (w : List ℕ) → slice_get es p ≡ Some former → StandsSomewhere es w
    → StandsSomewhere (set es p new) w ⊎ ((e : Ranked) × (former ≡ Some e) × (label_of e ≡ w))
moved es p former new w at s =
    elim (cases_eq s.0 p) [
      | inl same ↦
          let here : StandsIn es p s.1.entry = subst (λ (k : ℕ). StandsIn es k s.1.entry) same s.1.at in
          let one : former ≡ Some s.1.entry = cc in
          inr (s.1.entry, one, s.1.labelled)
      | inr ne ↦ inl (s.0, record { entry = s.1.entry; at = get-set_other es p s.0 new ne ∙ s.1.at; labelled = s.1.labelled })
    ]

-- an exchange of what two places have, one of the entries and one of the notes
pub only-exchanged : (m : Places) (es fs : Entries) (p k : ℕ) (o former : Option Ranked) → slice_get es p ≡ Some o
    → slice_get fs k ≡ Some former → HasOnly m es fs → HasOnly m (set es p former) (set fs k o)
only-exchanged m es fs p k o former at_p at_k h = record {
  among = λ w some. elim (h.among w some) [
    | inl here ↦ elim (moved es p o former w at_p here) [
      | inl stays ↦ inl stays
      | inr went ↦ inr (
        k,
        record {
          entry = went.0;
          at =
              get-set_same fs k o (slice_get_within fs k former at_k) ∙ ap (λ x. Some x) went.1;
          labelled = went.2;
        },
      )
    ]
    | inr there ↦ elim (moved fs k former o w at_k there) [
      | inl stays ↦ inr stays
      | inr went ↦ inl (
        p,
        record {
          entry = went.0;
          at =
              get-set_same es p former (slice_get_within es p o at_p) ∙ ap (λ x. Some x) went.1;
          labelled = went.2;
        },
      )
    ]
  ];
}

pub somewhere-left : (es fs : Entries) (w : List ℕ) → StandsSomewhere es w → StandsSomewhere (es ++ fs) w
somewhere-left es fs w s = (s.0, record { entry = s.1.entry; at = get-left es fs s.0 (Some s.1.entry) s.1.at; labelled = s.1.labelled })

-- what a place had is noted, and the map has the place for the label of what it has
pub only-noted : (m n : Places) (es fs : Entries) (p : ℕ) (former new : Option Ranked) → slice_get es p ≡ Some former → PutsAt m new p n
    → HasOnly m es fs → HasOnly n (set es p new) (fs ++ former ∷ [])
only-noted m n es fs p former new at puts h = record { among = λ w some. known new puts w some }
  where
    before : (x : Option Ranked) (w : List ℕ) → IsSome (place_in m w)
        → StandsSomewhere (set es p x) w ⊎ StandsSomewhere (fs ++ former ∷ []) w
    before x w some = elim (h.among w some) [
      | inl here ↦ elim (moved es p former x w at here) [
        | inl stays ↦ inl stays
        | inr went ↦ inr (length fs, record { entry = went.0; at = get-last fs former ∙ ap (λ x. Some x) went.1; labelled = went.2 })
      ]
      | inr there ↦ inr (somewhere-left fs (former ∷ []) w there)
    ]

    known : (x : Option Ranked) → PutsAt m x p n → (w : List ℕ) → IsSome (place_in n w)
        → StandsSomewhere (set es p x) w ⊎ StandsSomewhere (fs ++ former ∷ []) w
    known None puts w some = before None w (subst (λ o. IsSome o) (puts w) some)
    known (Some e) puts w some = elim (cases_Bool (bytes_eq (label_of e) w)) [
      | inl y ↦ inl (
        p,
        record {
          entry = e;
          at = get-set_same es p (Some e) (slice_get_within es p former at);
          labelled =
              same_bytes (label_of e) w y;
        },
      )
      | inr other ↦ before (Some e) w (subst (λ o. IsSome o)
          (puts w ∙ cond-false (bytes_eq (label_of e) w) (Some p) (place_in m w) other) some)
    ]

-- the last note went, and with it its label, unless an assertion has it
pub only-forgot : (m n : Places) (es : Entries) (ns : List Note) (note : Note) → KeepsLabels n m → IsForgotten n es note.former
    → HasOnly m es (formers (ns ++ note ∷ [])) → HasOnly n es (formers ns)
only-forgot m n es ns note fewer gone h = record {
  among = λ w some.
      let was = subst (λ xs. StandsSomewhere es w ⊎ StandsSomewhere xs w) (formers-push ns note) (h.among w (fewer.keeps w some)) in
      elim was [
        | inl here ↦ inl here
        | inr there ↦ elim (pushed-cases (formers ns) note.former there.0 there.1.entry there.1.at) [
          | inl stays ↦ inr (there.0, record { entry = there.1.entry; at = stays; labelled = there.1.labelled })
          | inr last ↦
              let own = subst (λ x. IsForgotten n es x) last.1 gone in
              inl (subst (StandsSomewhere es) there.1.labelled (own (subst (λ l. IsSome (place_in n l)) (sym there.1.labelled) some)))
        ]
      ];
}

-- ---- frames

-- a place has something else of the same frame
pub framed-set : (t : Tables) (es : Entries) (frames : List Frame) (p : ℕ) (new : Option Ranked) → AreFramed t es frames
    → ((e : Ranked) → new ≡ Some e → slice_get frames p ≡ Some (frame t e.assertion)) → AreFramed t (set es p new) frames
framed-set t es frames p new h own = record {
  long = h.long ∙ sym (length-set es p new);
  framed = λ q e at. elim (cases_eq q p) [
    | inl same ↦
        let here = get-set_is es p new (Some e) (subst (λ (k : ℕ). StandsIn (set es p new) k e) same at) in
        ap (slice_get frames) same ∙ own e here
    | inr ne ↦ h.framed q e (sym (get-set_other es p q new ne) ∙ at)
  ];
}

pub framed-undone : (t : Tables) (ns : List Note) (es : Entries) (frames : List Frame) → AreFramed t es frames → AreNotesFramed t ns frames
    → AreFramed t (undone ns es) frames
framed-undone t [] es frames h ns = h
framed-undone t (n ∷ ns) es frames h all =
    framed-set t (undone ns es) frames n.place n.former (framed-undone t ns es frames h all.0) all.1

pub notes_framed-push : (t : Tables) (ns : List Note) (n : Note) (frames : List Frame) → AreNotesFramed t ns frames
    → ((e : Ranked) → n.former ≡ Some e → slice_get frames n.place ≡ Some (frame t e.assertion)) → AreNotesFramed t (ns ++ n ∷ []) frames
notes_framed-push t [] n frames h own = (tt, own)
notes_framed-push t (k ∷ ns) n frames h own = (notes_framed-push t ns n frames h.0 own, h.1)

pub notes_framed-opened : (t : Tables) (ns : List Note) (frames : List Frame) (f : Frame) → AreNotesFramed t ns frames
    → AreNotesFramed t ns (frames ++ f ∷ [])
notes_framed-opened t [] frames f h = tt
notes_framed-opened t (n ∷ ns) frames f h = (
  notes_framed-opened t ns frames f h.0,
  λ e own. get-left frames (f ∷ []) n.place (frame t e.assertion) (h.1 e own),
)

-- ---- one more place

pub undone-opened : (m : Places) (ns : List Note) (es : Entries) → CanUndo m ns es → undone ns (es ++ None ∷ []) ≡ undone ns es ++ None ∷ []
undone-opened m [] es h = refl
undone-opened m (n ∷ ns) es h =
    ap (taken_back n) (undone-opened m ns es h.0) ∙ set-left (undone ns es) (None ∷ []) n.place n.former h.1.within

can_stand-opened : (m : Places) (es : Entries) (p : ℕ) (o : Option Ranked) → CanStand m es p o → CanStand m (es ++ None ∷ []) p o
can_stand-opened m es p None h = tt
can_stand-opened m es p (Some e) h = (
  record {
    others = λ q f at ne. elim (pushed-cases es None q f at) [
      | inl was ↦ h.0.others q f was ne
      | inr last ↦ absurd (let none : None ≡ Some f = last.1 in cc)
    ];
  },
  h.1,
)

pub can_undo-opened : (m : Places) (ns : List Note) (es : Entries) → CanUndo m ns es → CanUndo m ns (es ++ None ∷ [])
can_undo-opened m [] es h = tt
can_undo-opened m (n ∷ ns) es h =
    let before = undone ns es in
    let lt = h.1.within in (
      can_undo-opened m ns es h.0,
      subst (λ l. CanTakeBack m l n) (sym (undone-opened m ns es h.0))
          (record {
            within = omega (arith, length-append before (None ∷ []));
            stands = can_stand-opened m before n.place n.former h.1.stands;
          }),
    )

-- ---- one more assertion, before any change

pub only-pushed : (m n : Places) (es : Entries) (e : Ranked) (p : ℕ) → Puts m (label_of e) p n → HasOnly m es []
    → HasOnly n (es ++ Some e ∷ []) []
only-pushed m n es e p puts h = record {
  among = λ w some. elim (cases_Bool (bytes_eq (label_of e) w)) [
    | inl y ↦ inl (length es, record { entry = e; at = get-last es (Some e); labelled = same_bytes (label_of e) w y })
    | inr other ↦ elim (h.among w (subst (λ o. IsSome o)
        (puts w ∙ cond-false (bytes_eq (label_of e) w) (Some p) (place_in m w) other) some)) [
          | inl here ↦ inl (somewhere-left es (Some e ∷ []) w here)
          | inr there ↦ inr there
        ]
  ];
}

-- ---- lists

-- a list that was written as a whole
pub written_whole : {A : Type 0} (xs ys : List A) (n : ℕ) → n ≡ length xs → length ys ≡ length xs → take n (ys ++ drop (length ys) xs) ≡ ys
written_whole xs ys n all same = take-append-le n ys (drop (length ys) xs) (omega arith) ∙ take_all n ys (omega arith)

pub length-undone : (ns : List Note) (es : Entries) → length (undone ns es) ≡ length es
length-undone [] es = refl
length-undone (n ∷ ns) es = length-set (undone ns es) n.place n.former ∙ length-undone ns es
