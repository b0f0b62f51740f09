-- A library and the database that it shows: a library verifies in any order, and where its database is declarable and its proofs check.
use Rattle.std.proofs.Common.{◌≡◌, ◌≤◌, ℕ, Bool, true, false, List, [], Option, Some, None, length, get_or, map, refl, sym}
use Rattle.std.proofs.Common.{subst, arith}
use Rattle.std.specs.Prelude.{IsTrue, ◌&&◌, is_some, nat_le}
use mathlib.Core.Bool.{not}
use Rattle.std.specs.List.{All}
use Rattle.std.specs.List.Sorted.{IsPermutation}
use Rattle.std.specs.Str.{bytes_eq}
use Rattle.std.proofs.lemmas.List.{length-map, get_or-map}
use Rattle.std.proofs.lemmas.List.Elements.{All-map, All-nil, All-same, All-weaker, All-contains}
use Rattle.std.proofs.lemmas.List.Sorted.{All-permutation, Contains-permutation, IsPermutation-map, IsPermutation-sym, length_permutation}
use Rattle.mmtext.specs.Words.{is_label}
use Rattle.mmsyntax.specs.declared.statement.Kind.{Kind}
use Rattle.mmsyntax.specs.declared.statement.Kind.TheVariants.{Axiom, Theorem}
use Rattle.mmsyntax.specs.declared.statement.Step.{Step}
use Rattle.mmsyntax.specs.declared.statement.Step.TheVariants.{Float, Hyp, Cite}
use Rattle.mmsyntax.specs.declared.symbols.Name.{Name}
use Rattle.mmsyntax.specs.Tables.{Tables, meaning}
use Rattle.mmsyntax.specs.Steps.{float_named}
use Rattle.mmsyntax.specs.Assertions.{is_lawful_label, is_citable_label, Distinct, Fits, IsNameable, IsUnit, IsDeclarable}
use Rattle.mmsyntax.specs.Dotted.{ClashNowhere}
use Rattle.mmsyntax.proofs.Declarable.{spelled_where_declarable}
use Rattle.derivation.specs.Derivation.{Checks}
use Rattle.library.specs.declared.library.Ranked.{Ranked}
use Rattle.library.specs.Library.{Setting, IsSetting, IsLibrary, Verifies, label_of, lower, citable, Listed, shown_database}
use Rattle.library.specs.Laws.{LibrariesAreSpelled}
use Rattle.library.proofs.Clashing.{apart_among}
use Rattle.library.proofs.Derivations.{Within, NamesOne, checks_within, steps_named, steps_some}
use Rattle.library.proofs.Frames.{frame_found, frames_within}
use Rattle.library.proofs.Labels.{distinct_permutation}
use Rattle.library.proofs.Lower.{lower_all, lower_has, lower_distinct, labels-assertions}

abbrev pub InRange : Ranked → Type 0
InRange e = (1 ≤ e.rank) × (e.rank ≤ 4294967295)

-- ---- another order

library_permutation : (s : Setting) (lib other : List Ranked) → IsLibrary s lib → IsPermutation lib other → IsLibrary s other
library_permutation s lib other l p = record {
  ranks = All-permutation InRange lib other p l.ranks;
  lawful = All-permutation (λ e. IsTrue (is_lawful_label s.prelude (label_of e))) lib other p l.lawful;
  distinct = distinct_permutation (map label_of lib) (map label_of other) (IsPermutation-map label_of lib other p) l.distinct;
  apart = apart_among lib other (λ e. Contains-permutation other lib e (IsPermutation-sym lib other p)) l.apart;
  room = subst (λ n. n ≤ s.slots) (sym (length_permutation lib other p)) l.room;
}

citable_permutation : (s : Setting) (lib other : List Ranked) (rank : ℕ) → Distinct bytes_eq (map label_of other) → IsPermutation lib other
    → Within (citable s lib rank) (citable s other rank)
citable_permutation s lib other rank apart p =
    frames_within s.prelude (lower lib rank) (lower other rank) (lower_distinct other rank apart)
    (lower_all _ lib rank (λ e at lt. lower_has other rank e (Contains-permutation lib other e p at) lt))

-- the entry checks over the assertions of lower rank
abbrev pub ChecksIn : Setting → List Ranked → Ranked → Type 0
ChecksIn s lib e = Checks (citable s lib e.rank) s.prelude e.assertion

pub verifies_permutation : (s : Setting) (lib other : List Ranked) → Verifies s lib → IsPermutation lib other → Verifies s other
verifies_permutation s lib other v p =
    let l = library_permutation s lib other v.library p in
    record {
      setting = v.setting;
      library = l;
      fit = All-permutation (λ e. Fits s.prelude e.assertion) lib other p v.fit;
      checks = All-permutation (ChecksIn s other) lib other p
          (All-weaker (ChecksIn s lib) (ChecksIn s other)
          (λ e. checks_within (citable s lib e.rank) (citable s other e.rank) s.prelude e.assertion
          (citable_permutation s lib other e.rank l.distinct p)) lib v.checks);
    }

-- ---- as a database

no_float_label : (o : Option Name) → IsTrue (not (is_some o)) → IsTrue (not (is_some (float_named o)))
no_float_label None h = refl
no_float_label (Some n) h = absurd cc

last_weaker : (b e f : Bool) → (IsTrue e → IsTrue f) → IsTrue (b && e) → IsTrue (b && f)
last_weaker false e f h k = absurd cc
last_weaker true e f h k = h k

-- what may be the label of an assertion a step may cite
pub lawful_citable : (t : Tables) (w : List ℕ) → IsTrue (is_lawful_label t w) → IsTrue (is_citable_label t w)
lawful_citable t w h =
    last_weaker (nat_le 1 (length w) && nat_le (length w) 255 && is_label w) (not (is_some (meaning t w)))
    (not (is_some (float_named (meaning t w)))) (no_float_label (meaning t w)) h

-- each label that the proof of an entry may cite is lawful
cited_lawful : (s : Setting) (lib : List Ranked) (e : Ranked) (s' : Step) → IsLibrary s lib
    → NamesOne (citable s lib e.rank) s.prelude e.assertion s' → IsNameable s.prelude (length e.assertion.hyps) s'
cited_lawful s lib e (Float j) l h = h
cited_lawful s lib e (Hyp n) l h = h
cited_lawful s lib e (Cite w) l h =
    let Good = λ (v : List ℕ). IsTrue (is_lawful_label s.prelude v) in
    let found = frame_found s.prelude (lower lib e.rank) w h.0 h.1 in
    let lawful = lower_all (λ a. Good a.label) lib e.rank (λ f at lt. All-contains (λ g. Good (label_of g)) lib f l.lawful at) in
    lawful_citable s.prelude w (subst Good found.2 (All-contains (λ a. Good a.label) (lower lib e.rank) found.0 lawful found.1))

steps_nameable : (s : Setting) (lib : List Ranked) (e : Ranked) (kind : Kind) → e.assertion.kind ≡ kind → IsLibrary s lib
    → Fits s.prelude e.assertion → ChecksIn s lib e → All (IsNameable s.prelude (length e.assertion.hyps)) e.assertion.proof
steps_nameable s lib e Axiom is l f h =
    All-same (IsNameable s.prelude (length e.assertion.hyps)) e.assertion.proof [] (f.no_axiom_proof is) (All-nil _)
steps_nameable s lib e Theorem is l f h =
    let a = e.assertion in
    All-weaker (NamesOne (citable s lib e.rank) s.prelude a) (IsNameable s.prelude (length a.hyps)) (λ step. cited_lawful s lib e step l)
    a.proof (steps_named (citable s lib e.rank) s.prelude a a.proof a.statement (h is))

-- the assertions of a library that verifies are units: what proves has steps, and each of them can be named
pub units_of : (s : Setting) (lib : List Ranked) → Verifies s lib → All (λ e. IsUnit s.prelude e.assertion) lib
units_of s lib v = λ i d lt.
    let e = get_or lib i d in
    let a = e.assertion in
    record {
      fits = v.fit i d lt;
      some_steps = λ theorem. steps_some (citable s lib e.rank) s.prelude a a.proof a.statement (v.checks i d lt theorem);
      steps = steps_nameable s lib e a.kind refl v.library (v.fit i d lt) (v.checks i d lt);
    }

pub shown_declarable : (l : Listed) → Verifies l.setting l.entries → IsDeclarable l.setting.prelude (map (λ e. e.assertion) l.entries)
shown_declarable l v =
    let few = v.setting.few in
    let room = v.library.room in
    record {
      prelude = v.setting.sound;
      units = All-map (IsUnit l.setting.prelude) (λ e. e.assertion) l.entries (units_of l.setting l.entries v);
      lawful = All-map (λ a. IsTrue (is_lawful_label l.setting.prelude a.label)) (λ e. e.assertion) l.entries v.library.lawful;
      distinct = subst (Distinct bytes_eq) (sym (labels-assertions l.entries)) v.library.distinct;
      apart = subst ClashNowhere (sym (labels-assertions l.entries)) v.library.apart;
      few = omega (arith, length-map l.entries (λ (e : Ranked). e.assertion));
    }

pub shown_spelled : LibrariesAreSpelled
shown_spelled l v = spelled_where_declarable (shown_database l) (shown_declarable l v)

-- ---- from a database

All-unmap : {X Y : Type 0} (P : Y → Type 0) (f : X → Y) (xs : List X) → All P (map f xs) → All (λ x. P (f x)) xs
All-unmap P f xs h = λ i d lt. subst P (get_or-map f xs i d (f d) lt) (h i (f d) (omega (arith, length-map xs f)))

-- assertions that a text declares verify at ranks at which their proofs check, where there is room for them
pub verifies_shown : (s : Setting) (lib : List Ranked) → IsSetting s → All InRange lib → length lib ≤ s.slots
    → IsDeclarable s.prelude (map (λ e. e.assertion) lib) → All (ChecksIn s lib) lib → Verifies s lib
verifies_shown s lib setting ranks room d checks =
    let assertion = λ (e : Ranked). e.assertion in
    record {
      setting = setting;
      library = record {
        ranks = ranks;
        lawful = All-unmap (λ a. IsTrue (is_lawful_label s.prelude a.label)) assertion lib d.lawful;
        distinct = subst (Distinct bytes_eq) (labels-assertions lib) d.distinct;
        apart = subst ClashNowhere (labels-assertions lib) d.apart;
        room = room;
      };
      fit = All-unmap (Fits s.prelude) assertion lib (λ i z lt. (d.units i z lt).fits);
      checks = checks;
    }
