-- A compressed proof that is read again, as the nodes that its steps make.
use Rattle.std.proofs.Common.{◌≡◌, ◌<◌, ◌≤◌, ℕ, zero, suc, ◌+◌, ◌-◌, true, false, List, [], ◌∷◌, ◌++◌, length, map, take, reverse, refl, sym, ap, ◌∙◌, subst, arith, ◌≢◌}
use Rattle.std.proofs.Common.{get_or, inl, inr, IsTrue, append-nil}
use Rattle.source.specs.declared.letters.Code.TheVariants.{Number, Mark}
use Rattle.std.specs.Prelude.{pred, Option, Some, None, slice_get, nat_lt}
use Rattle.std.specs.Option.{option_map}
use Rattle.std.proofs.lemmas.List.{reverse-append, length-reverse, length-map}
use Rattle.std.proofs.lemmas.Bool.{cases_lt}
use Rattle.std.proofs.lemmas.Bool.Decides.{nat_tests}
use Rattle.std.proofs.lemmas.List.Elements.{recursion_from_All}
use Rattle.std.proofs.lemmas.Option.{slice_get-map, slice_get_within, slice_get-get_or}
use Rattle.mmtext.specs.Words.{Word}
use Rattle.source.specs.declared.letters.Code.{Code}
use Rattle.source.specs.Scopes.{Hypothesis, Assertion}
use Rattle.source.specs.Proofs.{Tree, Trees, node, none, some, over, Step, names, again, marks, taken_by, Stack, empty, pop, put, cite, repeat, mark, numbered, stepped, run_steps, step_of}
use Rattle.source.proofs.Alike.{seen, all}
use Rattle.taking.proofs.Listed.{all_at}
use Rattle.taking.proofs.Stacked.{popped, names_mark}
use Rattle.taking.proofs.Turned.{turned_back}
use Rattle.taking.proofs.Codes.{pred_is}
use Rattle.sourcewriting.specs.declared.shared.CountedLabel.{CountedLabel}
use Rattle.sourcewriting.specs.declared.shared.Shared.{Shared}
use Rattle.sourcewriting.specs.declared.reading.Reader.{Reader}
use Rattle.sourcewriting.specs.Marking.{takes_entries, IsMadeAt, IsBehindCitation, IsMarked}
use Rattle.sourcewriting.specs.Reading.{labels_in, node_in, IsCited, IsRepeated, IsMarkPut, IsNodeAt, IsReadTo, IsReadOn}

-- ---- steps

-- one more step behind others
step_back : {A : Type 0} (make : Word → List A → A) (earlier : List Assertion) (active : List Hypothesis) (from : Option (Stack A))
    (steps : List Step) (i : ℕ) (x : Step) (s : Stack A) → slice_get steps i ≡ Some x
    → run_steps make earlier active from (take (suc i) steps) ≡ Some s
    → (r : Stack A) × (run_steps make earlier active from (take i steps) ≡ Some r) × (stepped make earlier active r x ≡ Some s)
step_back make earlier active from [] i x s is goes = absurd cc
step_back make earlier active None (y ∷ steps) zero x s is goes = absurd cc
step_back make earlier active (Some r) (y ∷ steps) zero x s is goes =
    let here : x ≡ y = cc in (r, refl, ap (stepped make earlier active r) here ∙ goes)
step_back make earlier active None (y ∷ steps) (suc i) x s is goes = absurd cc
step_back make earlier active (Some r) (y ∷ steps) (suc i) x s is goes =
    step_back make earlier active (stepped make earlier active r y) steps i x s is goes

-- ---- trees as nodes

module _ (s : Shared) where
  abbrev mutual
    node_of : Tree → ℕ
    node_of (node w ts) = node_in s w (nodes_of ts)

    nodes_of : Trees → List ℕ
    nodes_of none = []
    nodes_of (some t ts) = node_of t ∷ nodes_of ts

  nodes_over : (ts : List Tree) → nodes_of (over ts) ≡ map node_of ts
  nodes_over [] = refl
  nodes_over (t ∷ ts) = ap (λ ns. node_of t ∷ ns) (nodes_over ts)

  same_node : (w : Word) (ts : List Tree) → node_of (node w (over ts)) ≡ node_in s w (map node_of ts)
  same_node w ts = ap (node_in s w) (nodes_over ts)

  -- what a step makes, as a node
  made_node : (earlier : List Assertion) (active : List Hypothesis) (steps : List Step) (label : Word) (t : Tree) (k : ℕ)
      → IsMadeAt (λ w ts. node w (over ts)) earlier active steps label t k → IsNodeAt s earlier active steps label (node_of t) k
  unfolding seen
  made_node earlier active steps label t k is = record {
    labelled = is.labelled;
    stack = seen node_of (λ w ts. node w (over ts)) (node_in s) same_node is.stack;
    behind =
        all node_of (λ w ts. node w (over ts)) (node_in s) same_node earlier active (Some empty) (take (suc k) steps)
        ∙ ap (option_map (seen node_of (λ w ts. node w (over ts)) (node_in s) same_node)) is.behind;
    last = slice_get-map node_of is.stack.entries 0 ∙ ap (option_map node_of) is.last;
  }

positive : (n : ℕ) → nat_lt 0 n ≡ true → 0 < n
positive n h = grind (arith, nat_tests)

-- ---- labels

-- a number that counts a label
numbered_label : (ws : List Word) (n : ℕ) (w : Word) → slice_get ws n ≡ Some w → numbered ws n ≡ names w
numbered_label [] n w is = absurd cc
numbered_label (v ∷ ws) zero w is = let e : v ≡ w = cc in ap names e
numbered_label (v ∷ ws) (suc n) w is = numbered_label ws n w is

label_step : (cs : List CountedLabel) (c : CountedLabel) (code : Code) (n place : ℕ) → code ≡ Number n → place ≡ n - 1
    → slice_get cs place ≡ Some c → step_of (labels_in cs) code ≡ names c.label.now
label_step cs c code n place is place-is at =
    let e : pred n ≡ place = pred_is n ∙ sym place-is in
    ap (step_of (labels_in cs)) is
    ∙ ap (numbered (labels_in cs)) e
    ∙ numbered_label (labels_in cs) place c.label.now
    (slice_get-map (λ (c : CountedLabel). c.label.now) cs place ∙ ap (option_map (λ (c : CountedLabel). c.label.now)) at)

-- and one that counts a mark
mark_step : (cs : List CountedLabel) (code : Code) (n place mark : ℕ) → code ≡ Number n → place ≡ n - 1
    → place ≡ length cs + mark → step_of (labels_in cs) code ≡ again mark
mark_step cs code n place mark is place-is mark-is =
    let e : pred n ≡ place = pred_is n ∙ sym place-is in
    let many = length-map cs (λ (c : CountedLabel). c.label.now) in
    ap (step_of (labels_in cs)) is ∙ names_mark (labels_in cs) (pred n) mark (omega arith)

-- whether it takes entries
none_taken : (hs : Option (List Hypothesis)) (n : ℕ) → ((taken : List Hypothesis) → hs ≡ Some taken → length taken ≡ n) → 0 < n
    → hs ≢ Some []
none_taken hs n many h e = let z : 0 ≡ n = many [] e in absurd (omega arith)

taken_some : (hs : Option (List Hypothesis)) (n : ℕ) → ((taken : List Hypothesis) → hs ≡ Some taken → length taken ≡ n)
    → IsTrue (takes_entries hs) → 0 < n
taken_some None n many h = absurd cc
taken_some (Some []) n many h = absurd cc
taken_some (Some (g ∷ hs)) n many h = let z : length (g ∷ hs) ≡ n = many (g ∷ hs) refl in omega arith

-- a label takes its entries
cited_step : {A : Type 0} (make : Word → List A → A) (earlier : List Assertion) (active : List Hypothesis) (w : Word)
    (front taken ms : List A) (hs : List Hypothesis) → taken_by earlier active w ≡ Some hs → length hs ≡ length taken
    → stepped make earlier active (record { entries = reverse (front ++ taken); marked = ms }) (names w)
    ≡ Some (record { entries = reverse (front ++ make w taken ∷ []); marked = ms })
cited_step make earlier active w front taken ms hs takes many =
    ap (cite make w (record { entries = reverse (front ++ taken); marked = ms })) takes
    ∙ ap (λ xs. put make w ms (pop hs xs [])) (reverse-append front taken)
    ∙ ap (put make w ms) (popped hs (reverse taken) (reverse front) [] (many ∙ sym (length-reverse taken)))
    ∙ ap (λ xs. Some (record { entries = make w xs ∷ reverse front; marked = ms }))
    (append-nil (reverse (reverse taken)) ∙ turned_back taken)
    ∙ ap (λ es. Some (record { entries = es; marked = ms })) (sym (reverse-append front (make w taken ∷ [])))

-- and leads nowhere else
cited_into : {A : Type 0} (make : Word → List A → A) (earlier : List Assertion) (active : List Hypothesis) (w : Word)
    (front taken ms : List A) (stack : Stack A) (o : Option (List Hypothesis)) → taken_by earlier active w ≡ o
    → ((hs : List Hypothesis) → o ≡ Some hs → length hs ≡ length taken)
    → stepped make earlier active (record { entries = reverse (front ++ taken); marked = ms }) (names w) ≡ Some stack
    → stack ≡ record { entries = reverse (front ++ make w taken ∷ []); marked = ms }
cited_into make earlier active w front taken ms stack None is many goes =
    let none = sym (ap (cite make w (record { entries = reverse (front ++ taken); marked = ms })) is) ∙ goes in absurd (cc none)
cited_into make earlier active w front taken ms stack (Some hs) is many goes =
    let e = sym goes ∙ cited_step make earlier active w front taken ms hs is (many hs refl) in cc e

-- ---- up to a place

module _ (s : Shared) (earlier : List Assertion) (active : List Hypothesis) (steps : List Step) (old new : Reader) (i : ℕ) where
  last_of : (front : List ℕ) (n : ℕ) → new.entries.items ≡ front ++ n ∷ [] → slice_get (reverse new.entries.items) 0 ≡ Some n
  last_of front n is = ap (λ es. slice_get (reverse es) 0) is ∙ ap (λ es. slice_get es 0) (reverse-append front (n ∷ []))

  -- a step that is no label's
  other : IsReadTo s earlier active steps old i → (x : Step) → slice_get steps i ≡ Some x → ((w : Word) → x ≡ names w → ⊥)
      → new.written ≡ old.written
      → stepped (node_in s) earlier active (record { entries = reverse old.entries.items; marked = old.marked.items }) x
      ≡ Some (record { entries = reverse new.entries.items; marked = new.marked.items })
      → new.may_mark ≡ false → (x ≡ marks → IsBehindCitation earlier active steps i) → IsReadTo s earlier active steps new (suc i)
  other was x is no_label written goes may_mark behind =
      let no = λ (label : Word) (n k : ℕ) (here : k ≡ i) (at : IsNodeAt s earlier active steps label n k).
      let e : Some x ≡ Some (names label) = sym is ∙ ap (slice_get steps) (sym here) ∙ at.labelled in
      no_label label cc in
      record {
        goes = λ stack h.
            let back = step_back (node_in s) earlier active (Some empty) steps i x stack is h in
            let e = sym back.2 ∙ ap (λ (z : Stack ℕ). stepped (node_in s) earlier active z x) (was.goes back.0 back.1) ∙ goes in
            cc e;
        noted = λ label n k h takes at.
            elim (cases_lt k i) [
              | inl lt ↦ ap (λ ws. slice_get ws.items n) written ∙ was.noted label n k lt takes at
              | inr ge ↦ absurd (no label n k (omega arith) at)
            ];
        once = λ label n j k h g takes at there.
            elim (cases_lt j i) [
              | inl lt ↦ elim (cases_lt k i) [
                | inl less ↦ was.once label n j k lt less takes at there
                | inr ge ↦ absurd (no label n k (omega arith) there)
              ]
              | inr ge ↦ absurd (no label n j (omega arith) at)
            ];
        last = λ e. absurd cc;
        behind = λ k h mark.
            elim (cases_lt k i) [
              | inl lt ↦ was.behind k lt mark
              | inr ge ↦
                  let here : k ≡ i = omega arith in
                  let e : Some x ≡ Some marks = sym is ∙ ap (slice_get steps) (sym here) ∙ mark in
                  let same : x ≡ marks = cc in
                  subst (IsBehindCitation earlier active steps) (sym here) (behind same)
            ];
      }

  repeated : (number : ℕ) → IsRepeated number old new → slice_get steps i ≡ Some (again number)
      → IsReadTo s earlier active steps old i → IsReadTo s earlier active steps new (suc i)
  repeated number now is was =
      other was (again number) is (λ w e. absurd cc) now.written
      (ap (repeat (record { entries = reverse old.entries.items; marked = old.marked.items })) now.found
      ∙ ap (λ es. Some (record { entries = es; marked = old.marked.items })) (sym (reverse-append old.entries.items (now.node ∷ [])))
      ∙ ap (λ es. Some (record { entries = reverse es; marked = old.marked.items })) (sym now.entries)
      ∙ ap (λ ms. Some (record { entries = reverse new.entries.items; marked = ms })) (sym now.marked))
      now.may_mark (λ e. absurd cc)

  mark_put : IsMarkPut old new → slice_get steps i ≡ Some marks
      → IsReadTo s earlier active steps old i → IsReadTo s earlier active steps new (suc i)
  mark_put now is was =
      let same = ap reverse now.split ∙ reverse-append now.front (now.node ∷ []) in
      other was marks is (λ w e. absurd cc) now.written
      (ap (λ es. mark es old.marked.items) same
      ∙ ap (λ es. Some (record { entries = es; marked = old.marked.items ++ now.node ∷ [] })) (sym same)
      ∙ ap (λ es. Some (record { entries = reverse es; marked = old.marked.items ++ now.node ∷ [] })) (sym now.entries)
      ∙ ap (λ ms. Some (record { entries = reverse new.entries.items; marked = ms })) (sym now.marked))
      now.may_mark (λ e. was.last now.could)

  module _ (c : CountedLabel) (now : IsCited s c old new) (is : slice_get steps i ≡ Some (names c.label.now))
      (takes : (taken : List Hypothesis) → taken_by earlier active c.label.now ≡ Some taken → length taken ≡ c.takes)
      (was : IsReadTo s earlier active steps old i) where
    own : ℕ
    own = node_in s c.label.now now.taken

    then : Stack ℕ
    then = record { entries = reverse new.entries.items; marked = new.marked.items }

    goes_on : (stack : Stack ℕ) → run_steps (node_in s) earlier active (Some empty) (take (suc i) steps) ≡ Some stack → stack ≡ then
    unfolding then
    goes_on stack h =
        let back = step_back (node_in s) earlier active (Some empty) steps i (names c.label.now) stack is h in
        let here : back.0 ≡ record { entries = reverse (now.front ++ now.taken); marked = old.marked.items } =
        was.goes back.0 back.1 ∙ ap (λ es. record { entries = reverse es; marked = old.marked.items }) now.split in
        let goes = ap (λ (z : Stack ℕ). stepped (node_in s) earlier active z (names c.label.now)) (sym here) ∙ back.2 in
        cited_into (node_in s) earlier active c.label.now now.front now.taken old.marked.items stack (taken_by earlier active c.label.now)
        refl (λ hs there. takes hs there ∙ sym now.many) goes
        ∙ ap (λ es. record { entries = reverse es; marked = old.marked.items }) (sym now.entries)
        ∙ ap (λ ms. record { entries = reverse new.entries.items; marked = ms }) (sym now.marked)

    -- what is made at this place is this
    own_label : (label : Word) (n k : ℕ) → k ≡ i → IsNodeAt s earlier active steps label n k → c.label.now ≡ label
    own_label label n k here at =
        let e : Some (names c.label.now) ≡ Some (names label) = sym is ∙ ap (slice_get steps) (sym here) ∙ at.labelled in cc

    own_node : (label : Word) (n k : ℕ) → k ≡ i → IsNodeAt s earlier active steps label n k → own ≡ n
    unfolding own then
    own_node label n k here at =
        let goes = ap (λ m. run_steps (node_in s) earlier active (Some empty) (take (suc m) steps)) (sym here) ∙ at.behind in
        let same = goes_on at.stack goes in
        let e : Some own ≡ Some n =
        sym (last_of now.front own now.entries) ∙ ap (λ (z : Stack ℕ). slice_get z.entries 0) (sym same) ∙ at.last in
        cc

    takes_some : (label : Word) (n k : ℕ) → k ≡ i → IsNodeAt s earlier active steps label n k
        → IsTrue (takes_entries (taken_by earlier active label)) → 0 < c.takes
    takes_some label n k here at h =
        taken_some (taken_by earlier active c.label.now) c.takes takes
        (subst (λ w. IsTrue (takes_entries (taken_by earlier active w))) (sym (own_label label n k here at)) h)

    -- it wasn't made before
    anew : (label : Word) (n j k : ℕ) → j < i → k ≡ i → IsTrue (takes_entries (taken_by earlier active label))
        → IsNodeAt s earlier active steps label n j → IsNodeAt s earlier active steps label n k → ⊥
    unfolding own
    anew label n j k lt here h before at =
        let e = own_node label n k here at in
        let first = now.first (takes_some label n k here at h) in
        let noted : slice_get old.written.items own ≡ Some true =
        subst (λ m. slice_get old.written.items m ≡ Some true) (sym e) (was.noted label n j lt h before) in
        cc

    cited : IsReadTo s earlier active steps new (suc i)
    unfolding own then
    cited = record {
      goes = goes_on;
      noted = λ label n k h taken at.
          elim (cases_lt k i) [
            | inl lt ↦ now.stay n (was.noted label n k lt taken at)
            | inr ge ↦
                let here : k ≡ i = omega arith in
                subst (λ m. slice_get new.written.items m ≡ Some true) (own_node label n k here at)
                (now.noted (takes_some label n k here at taken))
          ];
      once = λ label n j k h g taken at there.
          elim (cases_lt j i) [
            | inl lt ↦ elim (cases_lt k i) [
              | inl less ↦ was.once label n j k lt less taken at there
              | inr ge ↦ absurd (anew label n j k lt (omega arith) taken at there)
            ]
            | inr ge ↦ elim (cases_lt k i) [
              | inl less ↦ absurd (anew label n k j less (omega arith) taken there at)
              | inr le ↦ omega arith
            ]
          ];
      last = λ e. record {
        before = i;
        behind = refl;
        label = c.label.now;
        labelled = is;
        takes = none_taken (taken_by earlier active c.label.now) c.takes takes (positive c.takes (sym now.may_mark ∙ e));
      };
      behind = λ k h mark.
          elim (cases_lt k i) [
            | inl lt ↦ was.behind k lt mark
            | inr ge ↦
                let here : k ≡ i = omega arith in
                let e : Some (names c.label.now) ≡ Some marks = sym is ∙ ap (slice_get steps) (sym here) ∙ mark in
                absurd cc
          ];
    }

-- ---- a code

pub cited_at : (s : Shared) (cs : List CountedLabel) (d : CountedLabel) (code : Code) (n place : ℕ) (old new : Reader) → code ≡ Number n
    → place ≡ n - 1 → place < length cs → IsCited s (get_or cs place d) old new → IsReadOn s cs code old new
cited_at s cs d code n place old new is place-is h now = λ earlier active takes steps i at was.
    let c = get_or cs place d in
    let there : slice_get cs place ≡ Some c = slice_get-get_or cs place d h in
    let P : CountedLabel → Type 0 = λ c. (taken : List Hypothesis) → taken_by earlier active c.label.now ≡ Some taken
    → length taken ≡ c.takes in
    let so = all_at P cs place c (recursion_from_All P cs takes) there in
    cited s earlier active steps old new i c now (at ∙ ap (λ x. Some x) (label_step cs c code n place is place-is there)) so was

pub repeated_at : (s : Shared) (cs : List CountedLabel) (code : Code) (n place : ℕ) (old new : Reader) → code ≡ Number n → place ≡ n - 1
    → length cs ≤ place → IsRepeated (place - length cs) old new → IsReadOn s cs code old new
repeated_at s cs code n place old new is place-is h now = λ earlier active takes steps i at was.
    let step = mark_step cs code n place (place - length cs) is place-is (omega arith) in
    repeated s earlier active steps old new i (place - length cs) now (at ∙ ap (λ x. Some x) step) was

pub mark_at : (s : Shared) (cs : List CountedLabel) (code : Code) (old new : Reader) → code ≡ Mark → IsMarkPut old new
    → IsReadOn s cs code old new
mark_at s cs code old new is now = λ earlier active takes steps i at was.
    mark_put s earlier active steps old new i now (at ∙ ap (λ code. Some (step_of (labels_in cs) code)) is) was

-- ---- all steps

pub none_read : (s : Shared) (earlier : List Assertion) (active : List Hypothesis) (steps : List Step) (r : Reader) → r.entries.items ≡ []
    → r.marked.items ≡ [] → r.may_mark ≡ false → IsReadTo s earlier active steps r 0
none_read s earlier active steps r entries marked may_mark = record {
  goes = λ stack h.
      let here : Some (empty {A = ℕ}) ≡ Some stack = h in
      let same : stack ≡ empty {A = ℕ} = cc here in
      same
      ∙ ap (λ es. record { entries = reverse es; marked = [] }) (sym entries)
      ∙ ap (λ ms. record { entries = reverse r.entries.items; marked = ms }) (sym marked);
  noted = λ label n k h. absurd (omega arith);
  once = λ label n j k h. absurd (omega arith);
  last = λ e. absurd cc;
  behind = λ k h. absurd (omega arith);
}

pub all_read : (s : Shared) (earlier : List Assertion) (active : List Hypothesis) (steps : List Step) (r : Reader) (i : ℕ)
    → length steps ≤ i → IsReadTo s earlier active steps r i → IsMarked earlier active steps
all_read s earlier active steps r i le read = record {
  once = λ label t j k takes at there.
      let lt = slice_get_within steps j (names label) at.labelled in
      let less = slice_get_within steps k (names label) there.labelled in
      read.once label (node_of s t) j k (omega arith) (omega arith) takes (made_node s earlier active steps label t j at)
      (made_node s earlier active steps label t k there);
  behind = λ k is. let lt = slice_get_within steps k marks is in read.behind k (omega arith) is;
}
