-- The tables with one more statement.
use Rattle.std.proofs.Common.{◌≡◌, ℕ, ◌+◌, ◌<◌, ◌≤◌, true, false, cond, List, [], ◌∷◌, ◌++◌, length, take, reverse, Option, Some, None}
use Rattle.std.proofs.Common.{refl, sym, ap, ◌∙◌, subst, arith, length-append}
use Rattle.std.specs.List.{list_any, flat_map}
use Rattle.std.specs.Str.{bytes_eq}
use Rattle.std.proofs.lemmas.List.{map-append, length-map, append-nil}
use Rattle.std.proofs.lemmas.Grind.{flat_map-append}
use Rattle.mmtext.specs.Words.{Word}
use Rattle.source.specs.Statements.{Statement, Proof, float, hypothesis, distinct, asserted}
use Rattle.source.specs.Scopes.{Hypothesis, typing, premise, label_of, Assertion, Scope, is_mandatory, mandatory, pairs_of, declared, behind, with_hypothesis, with_assertion}
use Rattle.source.specs.Counts.{mandatory_marks}
use Rattle.source.specs.Tests.{is_lawful}
use Rattle.scopes.specs.declared.tables.Name.{Name}
use Rattle.scopes.specs.declared.tables.Name.TheVariants as name
use Rattle.scopes.specs.declared.tables.Active.{Active}
use Rattle.scopes.specs.Paths.{path, IsWithin}
use Rattle.scopes.specs.Views.{Linked, Entry, Kept, hypothesis_at, active_of, marked_links, pairs_at, assertion_of, assertions_of, scopes_around}
use Rattle.scopes.specs.Views.{scope_of, stand_of, marks_of}
use Rattle.scopes.specs.Sound.{KnowsWord, IsSound, IsNumbered, last_link}
use Rattle.scopes.specs.Effects.{with_link}
use Rattle.scopes.proofs.Paths.{path_stays, path_grows}
use Rattle.scopes.proofs.Naming.{knows_premise, knows_float, knows_assertion}
use Rattle.scopes.proofs.Growing.{sizes_of, IsMore, Agree, nested_more, around_stays, take_stays, push_more}
use Rattle.mmsyntax.proofs.Distinct.{all_push}
use Rattle.scopes.proofs.Linking.{all_map, all_listed, last_within, entries_stay, numbered_stay, links_stay, link_stays, listed_more, scope_link}
use Rattle.scopes.proofs.Linking.{active_grows}
use Rattle.scopes.proofs.Marking.{marked_within, marked_pass}
use Rattle.scopes.proofs.Lawful.{lawful_hypothesis, lawful_float, lawful_asserted}

-- ---- hypotheses

pub sound_link : (look found : Word → Option Name) (k : Kept) (h : Hypothesis) → IsSound look k
    → ((w : Word) → KnowsWord (with_hypothesis (scope_of k) h) w (found w)) → IsSound found (with_link k h)
sound_link look found k h s known =
    let j = with_link k h in
    let new : Active = record { link = length k.links; is_mandatory = false } in
    let l : Linked = (last_link k.active, h) in
    let longer : length k.links < length j.links = omega (arith, length-append k.links (l ∷ [])) in
    let more : IsMore (sizes_of k) (sizes_of j) = record {
      cs = omega arith;
      vs = omega arith;
      hs = push_more k.active new;
      ss = omega arith;
      ls = push_more k.labels (label_of h);
      es = omega arith;
    } in
    record {
      named = λ w. subst (λ (t : Scope). KnowsWord t w (found w)) (sym (scope_link look k h s)) (known w);
      within = all_push (λ a. a.link < length j.links) k.active new
          (all_map (λ a. a.link < length k.links) (λ a. a.link < length j.links) (λ a lt. omega arith) k.active s.within) longer;
      listed = listed_more look k h s;
      apart = s.apart;
      numbered = numbered_stay k.links j.links (length k.aparts) (length k.aparts) k.entries (omega arith) (omega arith) s.numbered
          (links_stay k h) (link_stays k.links (last_link k.active, h));
      nested = nested_more (reverse k.blocks) (length k.aparts) (length k.aparts) (sizes_of k) (sizes_of j) (omega arith) more s.nested;
    }

pub stand_link : (look : Word → Option Name) (k : Kept) (h : Hypothesis) (x : Statement) → IsSound look k
    → behind (scope_of k) x ≡ with_hypothesis (scope_of k) h → stand_of (with_link k h) ≡ declared (stand_of k) x
unfolding stand_of
stand_link look k h x s is =
    let j = with_link k h in
    let l : Linked = (last_link k.active, h) in
    let new : Active = record { link = length k.links; is_mandatory = false } in
    let here : scope_of j ≡ behind (scope_of k) x = scope_link look k h s ∙ sym is in
    let grown : active_of j.links j.active ≡ active_of k.links k.active ++ h ∷ [] = active_grows k.links l k.active false s.within in
    let entries : assertions_of j.links k.aparts k.entries ≡ assertions_of k.links k.aparts k.entries =
    entries_stay k.links j.links k.aparts k.aparts k.entries s.numbered (links_stay k h) (λ o w. refl) in
    let agree : Agree k j (length k.aparts) (sizes_of k) = record {
      constants = λ n le. refl;
      variables = λ n le. refl;
      hypotheses = λ n le. ap (take n) grown
          ∙ take_stays (active_of k.links k.active) h n (subst (λ m. n ≤ m) (sym (length-map_active k)) le);
      pairs = λ o h. refl;
      symbols = λ n le. refl;
      labels = take_stays k.labels (label_of h);
      assertions = λ n le. ap (take n) entries;
    } in
    let around : scopes_around j (reverse k.blocks) ≡ scopes_around k (reverse k.blocks) =
    around_stays k j (length k.aparts) (reverse k.blocks) (sizes_of k) s.nested agree in
    cc
  where
    length-map_active : (k : Kept) → length (active_of k.links k.active) ≡ length k.active
    length-map_active k = length-map k.active _

-- a premise
pub sound_premise : (look : Word → Option Name) (k : Kept) (label : Word) (ws : List Word) → IsSound look k
    → is_lawful (scope_of k) (hypothesis label ws) ≡ true
    → IsSound (λ w. cond (bytes_eq label w) (Some (name.Hypothesis (length k.active))) (look w)) (with_link k (premise label ws))
sound_premise look k label ws s lawful =
    let new = lawful_hypothesis (scope_of k) label ws lawful in
    let len : length (scope_of k).hypotheses ≡ length k.active = length-map k.active _ in
    sound_link look (λ w. cond (bytes_eq label w) (Some (name.Hypothesis (length k.active))) (look w)) k (premise label ws) s
    (λ w. subst (λ (n : ℕ). KnowsWord (with_hypothesis (scope_of k) (premise label ws)) w
    (cond (bytes_eq label w) (Some (name.Hypothesis n)) (look w)))
    len (knows_premise (scope_of k) label ws look s.named new.0 new.1 w))

-- the name of a variable
variable_named : (s : Scope) (v : Word) (o : Option Name) → KnowsWord s v o → list_any (bytes_eq v) s.symbols ≡ true
    → list_any (bytes_eq v) s.constants ≡ false → (i : ℕ) × (f : Option ℕ) × (o ≡ Some (name.Variable i f))
variable_named s v None k y c = absurd (let e = k.symbol in cc)
variable_named s v (Some name.Constant) k y c = absurd (let e = k.constant in cc)
variable_named s v (Some (name.Variable i f)) k y c = (i, f, refl)
variable_named s v (Some (name.Hypothesis i)) k y c = absurd (let e = k.symbol in cc)
variable_named s v (Some (name.Assertion i)) k y c = absurd (let e = k.symbol in cc)

pub float_named : (look : Word → Option Name) (k : Kept) (label c v : Word) → IsSound look k
    → is_lawful (scope_of k) (float label c v) ≡ true → (i : ℕ) × (f : Option ℕ) × (look v ≡ Some (name.Variable i f))
float_named look k label c v s lawful =
    let new = lawful_float (scope_of k) label c v lawful in
    variable_named (scope_of k) v (look v) (s.named v) new.2 new.3

-- a typing
pub sound_float : (look : Word → Option Name) (k : Kept) (label c v : Word) (i : ℕ) (f : Option ℕ) → IsSound look k
    → is_lawful (scope_of k) (float label c v) ≡ true → look v ≡ Some (name.Variable i f)
    → IsSound (λ w. cond (bytes_eq v w) (Some (name.Variable i (Some (length k.active))))
    (cond (bytes_eq label w) (Some (name.Hypothesis (length k.active))) (look w))) (with_link k (typing label c v))
sound_float look k label c v i f s lawful at =
    let new = lawful_float (scope_of k) label c v lawful in
    let len : length (scope_of k).hypotheses ≡ length k.active = length-map k.active _ in
    sound_link look (λ w. cond (bytes_eq v w) (Some (name.Variable i (Some (length k.active))))
    (cond (bytes_eq label w) (Some (name.Hypothesis (length k.active))) (look w))) k (typing label c v) s
    (λ w. subst (λ (n : ℕ). KnowsWord (with_hypothesis (scope_of k) (typing label c v)) w
    (cond (bytes_eq v w) (Some (name.Variable i (Some n)))
    (cond (bytes_eq label w) (Some (name.Hypothesis n)) (look w))))
    len (knows_float (scope_of k) label c v i f look s.named new.0 new.1 at new.4 w))

-- ---- $d

abbrev pub with_apart : Kept → List Word → Kept
with_apart k vs = record k { aparts = k.aparts ++ (k.last_apart, vs) ∷ []; last_apart = Some (length k.aparts) }

pairs_stay : (k : Kept) (vs : List Word) (o : Option ℕ) → IsWithin o (length k.aparts) → path (with_apart k vs).aparts o ≡ path k.aparts o
pairs_stay k vs o within = path_stays k.aparts (k.last_apart, vs) o within

scope_apart : (look : Word → Option Name) (k : Kept) (vs : List Word) → IsSound look k
    → scope_of (with_apart k vs) ≡ behind (scope_of k) (distinct vs)
scope_apart look k vs s =
    let j = with_apart k vs in
    let ps : pairs_at j.aparts j.last_apart ≡ pairs_at k.aparts k.last_apart ++ pairs_of vs =
    ap (flat_map pairs_of) (path_grows k.aparts k.last_apart vs)
    ∙ flat_map-append pairs_of (path k.aparts k.last_apart) (vs ∷ [])
    ∙ ap (λ xs. pairs_at k.aparts k.last_apart ++ xs) (append-nil (pairs_of vs)) in
    let es : assertions_of k.links j.aparts k.entries ≡ assertions_of k.links k.aparts k.entries =
    entries_stay k.links k.links k.aparts j.aparts k.entries s.numbered (λ o w. refl) (pairs_stay k vs) in
    cc

pub sound_apart : (look : Word → Option Name) (k : Kept) (vs : List Word) → IsSound look k → IsSound look (with_apart k vs)
sound_apart look k vs s =
    let j = with_apart k vs in
    let longer : length j.aparts ≡ length k.aparts + 1 = length-append k.aparts ((k.last_apart, vs) ∷ []) in
    let more : IsMore (sizes_of k) (sizes_of j) = record {
      cs = omega arith;
      vs = omega arith;
      hs = omega arith;
      ss = omega arith;
      ls = omega arith;
      es = omega arith;
    } in
    record {
      named = λ w. subst (λ (t : Scope). KnowsWord t w (look w)) (sym (scope_apart look k vs s))
          (knows_apart (scope_of k) vs w (look w) (s.named w));
      within = s.within;
      listed = s.listed;
      apart = omega arith;
      numbered = numbered_stay k.links k.links (length k.aparts) (length j.aparts) k.entries (omega arith) (omega arith) s.numbered
          (λ o w. refl) (λ i lt. refl);
      nested = nested_more (reverse k.blocks) (length k.aparts) (length j.aparts) (sizes_of k) (sizes_of j) (omega arith) more s.nested;
    }
  where
    knows_apart : (t : Scope) (vs : List Word) (w : Word) (o : Option Name) → KnowsWord t w o → KnowsWord (behind t (distinct vs)) w o
    knows_apart t vs w o k = record {
      constant = k.constant;
      symbol = k.symbol;
      label = k.label;
      variable = k.variable;
      float = k.float;
      hypothesis = k.hypothesis;
      assertion = k.assertion;
    }

pub stand_apart : (look : Word → Option Name) (k : Kept) (vs : List Word) → IsSound look k
    → stand_of (with_apart k vs) ≡ declared (stand_of k) (distinct vs)
unfolding stand_of
stand_apart look k vs s =
    let j = with_apart k vs in
    let here : scope_of j ≡ behind (scope_of k) (distinct vs) = scope_apart look k vs s in
    let es : assertions_of k.links j.aparts k.entries ≡ assertions_of k.links k.aparts k.entries =
    entries_stay k.links k.links k.aparts j.aparts k.entries s.numbered (λ o w. refl) (pairs_stay k vs) in
    let agree : Agree k j (length k.aparts) (sizes_of k) = record {
      constants = λ n le. refl;
      variables = λ n le. refl;
      hypotheses = λ n le. refl;
      pairs = λ o h. ap (flat_map pairs_of) (pairs_stay k vs o h);
      symbols = λ n le. refl;
      labels = λ n le. refl;
      assertions = λ n le. ap (take n) es;
    } in
    let around : scopes_around j (reverse k.blocks) ≡ scopes_around k (reverse k.blocks) =
    around_stays k j (length k.aparts) (reverse k.blocks) (sizes_of k) s.nested agree in
    cc

-- ---- assertions

abbrev pub entry_here : Kept → Word → List Word → Option Proof → Entry
entry_here k label ws proof = record {
  label = label;
  statement = ws;
  proof = proof;
  hypotheses = last_link k.active;
  apart = k.last_apart;
  mandatory_links = marked_links k.active;
}

abbrev pub with_entry : Kept → Entry → Kept
with_entry k e = record k { labels = k.labels ++ e.label ∷ []; entries = k.entries ++ e ∷ [] }

scope_entry : (look : Word → Option Name) (k : Kept) (label : Word) (ws : List Word) (proof : Option Proof) → IsSound look k
    → scope_of (with_entry k (entry_here k label ws proof)) ≡ with_assertion (scope_of k) label ws proof
scope_entry look k label ws proof s =
    let e = entry_here k label ws proof in
    let hs : path k.links (last_link k.active) ≡ active_of k.links k.active = all_listed k.links k.active s.listed in
    let a : Assertion = record {
      label = label;
      hypotheses = mandatory (active_of k.links k.active) ws;
      pairs = pairs_at k.aparts k.last_apart;
      statement = ws;
      proof = proof;
      active = active_of k.links k.active;
    } in
    let one : assertion_of k.links k.aparts e ≡ a = cc in
    let es : assertions_of k.links k.aparts (k.entries ++ e ∷ []) ≡ assertions_of k.links k.aparts k.entries ++ a ∷ [] =
    map-append (assertion_of k.links k.aparts) k.entries (e ∷ []) ∙ ap (λ x. assertions_of k.links k.aparts k.entries ++ x ∷ []) one in
    cc

pub sound_entry : (look : Word → Option Name) (k : Kept) (label : Word) (ws : List Word) (proof : Option Proof) → IsSound look k
    → is_lawful (scope_of k) (asserted label ws) ≡ true → marks_of k ≡ mandatory_marks (scope_of k) ws
    → IsSound (λ w. cond (bytes_eq label w) (Some (name.Assertion (length k.entries))) (look w))
    (with_entry k (entry_here k label ws proof))
sound_entry look k label ws proof s lawful marks =
    let e = entry_here k label ws proof in
    let j = with_entry k e in
    let new = lawful_asserted (scope_of k) label ws lawful in
    let len : length (scope_of k).assertions ≡ length k.entries = length-map k.entries _ in
    let hs : path k.links (last_link k.active) ≡ active_of k.links k.active = all_listed k.links k.active s.listed in
    let more : IsMore (sizes_of k) (sizes_of j) = record {
      cs = omega arith;
      vs = omega arith;
      hs = omega arith;
      ss = omega arith;
      ls = push_more k.labels label;
      es = push_more k.entries e;
    } in
    let a : Assertion = record {
      label = label;
      hypotheses = mandatory (scope_of k).hypotheses ws;
      pairs = (scope_of k).pairs;
      statement = ws;
      proof = proof;
      active = (scope_of k).hypotheses;
    } in
    record {
      named = λ w. subst (λ (t : Scope). KnowsWord t w (cond (bytes_eq label w) (Some (name.Assertion (length k.entries))) (look w)))
          (sym (scope_entry look k label ws proof s))
          (subst (λ (n : ℕ). KnowsWord (with_assertion (scope_of k) label ws proof) w
          (cond (bytes_eq label w) (Some (name.Assertion n)) (look w))) len
          (knows_assertion (scope_of k) a look s.named new.0 new.1 w));
      within = s.within;
      listed = s.listed;
      apart = s.apart;
      numbered = all_push (IsNumbered k.links (length k.aparts)) k.entries e s.numbered (record {
        hypotheses = last_within (length k.links) k.active s.within;
        apart = s.apart;
        mandatory_there = marked_within (length k.links) k.active s.within;
        mandatory_are = marked_pass (hypothesis_at k.links) (is_mandatory (scope_of k).hypotheses ws) k.active marks
            ∙ ap (λ xs. mandatory xs ws) (sym hs);
      });
      nested = nested_more (reverse k.blocks) (length k.aparts) (length k.aparts) (sizes_of k) (sizes_of j) (omega arith) more s.nested;
    }

pub stand_entry : (look : Word → Option Name) (k : Kept) (label : Word) (ws : List Word) (proof : Option Proof)
    → IsSound look k
    → stand_of (with_entry k (entry_here k label ws proof)) ≡ record (stand_of k) {
      scope =
          with_assertion (scope_of k) label ws proof;
    }
unfolding stand_of
stand_entry look k label ws proof s =
    let e = entry_here k label ws proof in
    let j = with_entry k e in
    let here : scope_of j ≡ with_assertion (scope_of k) label ws proof = scope_entry look k label ws proof s in
    let f = assertion_of k.links k.aparts in
    let pushed : assertions_of k.links k.aparts j.entries ≡ assertions_of k.links k.aparts k.entries ++ f e ∷ [] =
    map-append f k.entries (e ∷ []) in
    let len : length (assertions_of k.links k.aparts k.entries) ≡ length k.entries = length-map k.entries f in
    let agree : Agree k j (length k.aparts) (sizes_of k) = record {
      constants = λ n le. refl;
      variables = λ n le. refl;
      hypotheses = λ n le. refl;
      pairs = λ o h. refl;
      symbols = λ n le. refl;
      labels = take_stays k.labels label;
      assertions = λ n le. ap (take n) pushed
          ∙ take_stays (assertions_of k.links k.aparts k.entries) (f e) n (subst (λ m. n ≤ m) (sym len) le);
    } in
    let around : scopes_around j (reverse k.blocks) ≡ scopes_around k (reverse k.blocks) =
    around_stays k j (length k.aparts) (reverse k.blocks) (sizes_of k) s.nested agree in
    cc
