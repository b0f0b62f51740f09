-- The tables with one more symbol.
use Rattle.std.proofs.Common.{◌≡◌, true, cond, List, [], ◌∷◌, ◌++◌, length, reverse, Option, Some, refl, sym, ap, subst, arith}
use Rattle.std.specs.Str.{bytes_eq}
use Rattle.mmtext.specs.Words.{Word}
use Rattle.source.specs.Scopes.{Scope, Stand, declared, behind}
use Rattle.source.specs.Tests.{is_lawful, a_constant, a_variable}
use Rattle.scopes.specs.declared.tables.Name.{Name}
use Rattle.scopes.specs.declared.tables.Name.TheVariants as name
use Rattle.scopes.specs.Views.{Kept, scope_of, stand_of}
use Rattle.scopes.specs.Sound.{KnowsWord, IsSound, float_place}
use Rattle.scopes.proofs.Naming.{knows_constant, knows_variable}
use Rattle.scopes.proofs.Growing.{sizes_of, IsMore, Agree, nested_more, around_stays, take_stays, push_more}
use Rattle.scopes.proofs.Lawful.{lawful_constant, lawful_variable}

-- the map goes by what it finds
pub sound_looks : (look found : Word → Option Name) (k : Kept) → IsSound look k → ((w : Word) → found w ≡ look w) → IsSound found k
sound_looks look found k s same = record {
  named = λ w. subst (λ o. KnowsWord (scope_of k) w o) (sym (same w)) (s.named w);
  within = s.within;
  listed = s.listed;
  apart = s.apart;
  numbered = s.numbered;
  nested = s.nested;
}

-- ---- constants

abbrev pub with_constant : Kept → Word → Kept
with_constant k c = record k { constants = k.constants ++ c ∷ []; symbols = k.symbols ++ c ∷ [] }

pub sound_constant : (look : Word → Option Name) (k : Kept) (c : Word) → IsSound look k → is_lawful (scope_of k) (a_constant c) ≡ true
    → IsSound (λ w. cond (bytes_eq c w) (Some name.Constant) (look w)) (with_constant k c)
sound_constant look k c s lawful =
    let new = lawful_constant (scope_of k) c lawful in
    let more : IsMore (sizes_of k) (sizes_of (with_constant k c)) = record {
      cs = push_more k.constants c;
      vs = omega arith;
      hs = omega arith;
      ss = push_more k.symbols c;
      ls = omega arith;
      es = omega arith;
    } in
    record {
      named = knows_constant (scope_of k) c look s.named new.0 new.1;
      within = s.within;
      listed = s.listed;
      apart = s.apart;
      numbered = s.numbered;
      nested = nested_more (reverse k.blocks) (length k.aparts) (length k.aparts) (sizes_of k) (sizes_of (with_constant k c))
          (omega arith) more
          s.nested;
    }

pub stand_constant : (look : Word → Option Name) (k : Kept) (c : Word) → IsSound look k
    → stand_of (with_constant k c) ≡ declared (stand_of k) (a_constant c)
unfolding stand_of
stand_constant look k c s =
    let agree : Agree k (with_constant k c) (length k.aparts) (sizes_of k) = record {
      constants = take_stays k.constants c;
      variables = λ n le. refl;
      hypotheses = λ n le. refl;
      pairs = λ o h. refl;
      symbols = take_stays k.symbols c;
      labels = λ n le. refl;
      assertions = λ n le. refl;
    } in
    let f : List Scope → Stand = λ a. record { scope = behind (scope_of k) (a_constant c); around = a } in
    ap f (around_stays k (with_constant k c) (length k.aparts) (reverse k.blocks) (sizes_of k) s.nested agree)

-- ---- variables

abbrev pub with_variable : Kept → Word → Kept
with_variable k v = record k { variables = k.variables ++ v ∷ []; symbols = k.symbols ++ v ∷ [] }

pub sound_variable : (look : Word → Option Name) (k : Kept) (v : Word) → IsSound look k → is_lawful (scope_of k) (a_variable v) ≡ true
    → IsSound (λ w. cond (bytes_eq v w) (Some (name.Variable (length k.variables) (float_place (look v)))) (look w)) (with_variable k v)
sound_variable look k v s lawful =
    let new = lawful_variable (scope_of k) v lawful in
    let more : IsMore (sizes_of k) (sizes_of (with_variable k v)) = record {
      cs = omega arith;
      vs = push_more k.variables v;
      hs = omega arith;
      ss = push_more k.symbols v;
      ls = omega arith;
      es = omega arith;
    } in
    record {
      named = knows_variable (scope_of k) v look s.named new.0 new.1 new.2;
      within = s.within;
      listed = s.listed;
      apart = s.apart;
      numbered = s.numbered;
      nested = nested_more (reverse k.blocks) (length k.aparts) (length k.aparts) (sizes_of k) (sizes_of (with_variable k v))
          (omega arith) more
          s.nested;
    }

pub stand_variable : (look : Word → Option Name) (k : Kept) (v : Word) → IsSound look k
    → stand_of (with_variable k v) ≡ declared (stand_of k) (a_variable v)
unfolding stand_of
stand_variable look k v s =
    let agree : Agree k (with_variable k v) (length k.aparts) (sizes_of k) = record {
      constants = λ n le. refl;
      variables = take_stays k.variables v;
      hypotheses = λ n le. refl;
      pairs = λ o h. refl;
      symbols = take_stays k.symbols v;
      labels = λ n le. refl;
      assertions = λ n le. refl;
    } in
    let f : List Scope → Stand = λ a. record { scope = behind (scope_of k) (a_variable v); around = a } in
    ap f (around_stays k (with_variable k v) (length k.aparts) (reverse k.blocks) (sizes_of k) s.nested agree)
