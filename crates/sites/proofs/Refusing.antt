-- Words without names, where the same names are free.
use Rattle.std.proofs.Common.{◌≡◌, ◌∙◌, Bool, true, false, List, [], ℕ, map, take, get_or, inl, inr, sym, ap, subst}
use Rattle.std.specs.Prelude.{◌&&◌, IsTrue}
use mathlib.Core.Bool.{not}
use Rattle.std.specs.Prelude.{Vec}
use Rattle.std.specs.List.{list_any}
use Rattle.std.specs.Borrow.{Bor}
use Rattle.std.specs.HashSet.{HashSet}
use Rattle.std.specs.declared.alloc.Global.{Global}
use Rattle.std.specs.declared.random_state.RandomState.{RandomState}
use Rattle.mmtext.specs.Words.{Word, has_dot, has_hypothesis_form}
use Rattle.mmsyntax.specs.Dotted.{is_dotted, trunk}
use Rattle.source.specs.Scopes.{Scope, is_in}
use Rattle.source.specs.Views.{has}
use Rattle.taking.specs.Names.{is_fresh}
use Rattle.taking.specs.Fresh.{candidate, is_named_by, AreGiven, beside, AreLeft, IsRefused, AreRefused}
use Rattle.taking.specs.declared.fresh.Unnamed.{Unnamed}
use Rattle.taking.specs.declared.fresh.Unnamed.TheVariants.{NoFreshName, NoMemory}
use Rattle.sites.specs.Changes.{has_given, variables_changing, HasTrunks, HasNothing}
use Rattle.sites.specs.Namings.{may_be_given, AreUnnamed}

named_alike : (f g : Word → Bool) → ((w : Word) → f w ≡ g w) → (b : Bool) (w name : Word) → IsTrue (is_named_by f b w name)
    → IsTrue (is_named_by g b w name)
named_alike f g same true w name h = sym (same name) ∙ h
named_alike f g same false w name h = h

given_alike : (f g : Word → Bool) → ((w : Word) → f w ≡ g w) → (changes : List Bool) (words names : List Word)
    → AreGiven f changes words names → AreGiven g changes words names
given_alike f g same changes words names given = record {
  as_many = given.as_many;
  named = λ k lt.
      named_alike f g same (get_or changes k false) (get_or words k []) (get_or names k []) (given.named k lt);
  apart = given.apart;
}

refused_alike : (f g : Word → Bool) → ((w : Word) → f w ≡ g w) → (changes : List Bool) (words : List Word) (w : Word)
    → IsRefused f changes words w → IsRefused g changes words w
refused_alike f g same changes words w r = record {
  place = r.place;
  within = r.within;
  stands_there = r.stands_there;
  changing = r.changing;
  names = r.names;
  given = given_alike f g same changes (take r.place words) r.names r.given;
  none_free = λ k lt. ap (λ b. b && not (is_in r.names (candidate w k))) (sym (same (candidate w k))) ∙ r.none_free k lt;
}

beside_alike : (f g behind : Word → Bool) (names : List Word) → ((w : Word) → f w ≡ g w) → AreLeft f behind names → (w : Word)
    → behind w ≡ beside g names w
beside_alike f g behind names same left w = left w ∙ ap (λ b. b && not (is_in names w)) (same w)

-- ---- which names are free

-- by what was declared, by trunks and by what was given
abbrev pub is_free_by : Scope → HashSet (Bor (List ℕ)) RandomState → HashSet (Vec ℕ Global) RandomState → Word → Bool
is_free_by s trunks given w = is_fresh s w && (not (has trunks w) && (not (has_given given w) && not (has_dot w)))

pub first_free : (s : Scope) (trunks : HashSet (Bor (List ℕ)) RandomState) (given : HashSet (Vec ℕ Global) RandomState) (ls : List Word)
    → HasTrunks trunks ls → HasNothing given → (w : Word) → is_free_by s trunks given w ≡ may_be_given s ls w
first_free s trunks given ls t none w =
    ap (λ b. is_fresh s w && (not b && (not (has_given given w) && not (has_dot w)))) (t w)
    ∙ ap (λ b. is_fresh s w && (not (is_in (map trunk ls) w) && (not b && not (has_dot w)))) (none w)

-- ---- constants, variables, labels of $f and labels of assertions

module _ (s : Scope) (cs vs fs ls : List Word) (f0 : Word → Bool) (same : (w : Word) → f0 w ≡ may_be_given s ls w) where
  pub first : (flags : List Bool) → flags ≡ map has_hypothesis_form cs → (why : Unnamed) → AreRefused f0 flags cs why
      → AreUnnamed s cs vs fs ls why
  first flags is (NoFreshName w) r =
      inl (refused_alike f0 (may_be_given s ls) same (map has_hypothesis_form cs) cs w.now
      (subst (λ (bs : List Bool). IsRefused f0 bs cs w.now) is r))
  first flags is NoMemory r = tt

  module _ (c-flags : List Bool) (c-is : c-flags ≡ map has_hypothesis_form cs) (cns : List Word) (c-given : AreGiven f0 c-flags cs cns)
      (f1 : Word → Bool) (c-left : AreLeft f0 f1 cns) where
    same_1 : (w : Word) → f1 w ≡ beside (may_be_given s ls) cns w
    same_1 w = beside_alike f0 (may_be_given s ls) f1 cns same c-left w

    given_0 : AreGiven (may_be_given s ls) (map has_hypothesis_form cs) cs cns
    given_0 =
        given_alike f0 (may_be_given s ls) same (map has_hypothesis_form cs) cs cns
        (subst (λ (bs : List Bool). AreGiven f0 bs cs cns) c-is c-given)

    pub second : (flags : List Bool) → flags ≡ variables_changing vs → (why : Unnamed) → AreRefused f1 flags vs why
        → AreUnnamed s cs vs fs ls why
    second flags is (NoFreshName w) r =
        inr (
          cns,
          given_0,
          inl (refused_alike f1 (beside (may_be_given s ls) cns) same_1 (variables_changing vs) vs w.now
              (subst (λ (bs : List Bool). IsRefused f1 bs vs w.now) is r)),
        )
    second flags is NoMemory r = tt

    module _ (v-flags : List Bool) (v-is : v-flags ≡ variables_changing vs) (vns : List Word) (v-given : AreGiven f1 v-flags vs vns)
        (f2 : Word → Bool) (v-left : AreLeft f1 f2 vns) where
      same_2 : (w : Word) → f2 w ≡ beside (beside (may_be_given s ls) cns) vns w
      same_2 w = beside_alike f1 (beside (may_be_given s ls) cns) f2 vns same_1 v-left w

      given_1 : AreGiven (beside (may_be_given s ls) cns) (variables_changing vs) vs vns
      given_1 =
          given_alike f1 (beside (may_be_given s ls) cns) same_1 (variables_changing vs) vs vns
          (subst (λ (bs : List Bool). AreGiven f1 bs vs vns) v-is v-given)

      pub third : (flags : List Bool) → flags ≡ map has_dot fs → (why : Unnamed) → AreRefused f2 flags fs why
          → AreUnnamed s cs vs fs ls why
      third flags is (NoFreshName w) r =
          inr (
            cns,
            given_0,
            inr (
              vns,
              given_1,
              inl (refused_alike f2 (beside (beside (may_be_given s ls) cns) vns) same_2 (map has_dot fs) fs w.now
                  (subst (λ (bs : List Bool). IsRefused f2 bs fs w.now) is r)),
            ),
          )
      third flags is NoMemory r = tt

      module _ (f-flags : List Bool) (f-is : f-flags ≡ map has_dot fs) (fns : List Word) (f-given : AreGiven f2 f-flags fs fns)
          (f3 : Word → Bool) (f-left : AreLeft f2 f3 fns) where
        same_3 : (w : Word) → f3 w ≡ beside (beside (beside (may_be_given s ls) cns) vns) fns w
        same_3 w = beside_alike f2 (beside (beside (may_be_given s ls) cns) vns) f3 fns same_2 f-left w

        given_2 : AreGiven (beside (beside (may_be_given s ls) cns) vns) (map has_dot fs) fs fns
        given_2 =
            given_alike f2 (beside (beside (may_be_given s ls) cns) vns) same_2 (map has_dot fs) fs fns
            (subst (λ (bs : List Bool). AreGiven f2 bs fs fns) f-is f-given)

        pub fourth : (flags : List Bool) → flags ≡ map (λ p. list_any (λ l. is_dotted l p) ls) ls → (why : Unnamed)
            → AreRefused f3 flags ls why → AreUnnamed s cs vs fs ls why
        fourth flags is (NoFreshName w) r =
            let free : Word → Bool = beside (beside (beside (may_be_given s ls) cns) vns) fns in
            inr (
              cns,
              given_0,
              inr (
                vns,
                given_1,
                inr (
                  fns,
                  given_2,
                  refused_alike f3 free same_3 (map (λ p. list_any (λ l. is_dotted l p) ls) ls)
                      ls w.now (subst (λ (bs : List Bool). IsRefused f3 bs ls w.now) is r),
                ),
              ),
            )
        fourth flags is NoMemory r = tt
