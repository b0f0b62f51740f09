-- Cells of zeros show the library without assertions, which verifies.
use Rattle.std.proofs.Common.{◌≡◌, ℕ, zero, suc, List, [], get_or, inr, refl, sym, ap, ◌∙◌, arith}
use Rattle.std.specs.Prelude.{◌≤◌, replicate, IsTrue}
use Rattle.std.proofs.lemmas.List.Elements.{All-nil}
use Rattle.std.proofs.lemmas.List.Sorted.{IsPermutation-refl}
use Rattle.std.proofs.lemmas.Option.{get_or_from_slice_get}
use Rattle.mmsyntax.specs.Assertions.{Fits, is_lawful_label}
use Rattle.mmsyntax.proofs.Apart.{apart_nil}
use Rattle.derivation.specs.Derivation.{Checks}
use Rattle.library.specs.declared.library.Ranked.{Ranked}
use Rattle.library.specs.Library.{Setting, IsSetting, Verifies, label_of, citable}
use Rattle.ranges.specs.Ranges.{Range}
use Rattle.ranges.specs.declared.range.Range.{Range as Span}
use Rattle.cells.specs.State.{State}
use Rattle.cells.specs.Shows.{Held, Holds, ShowsHeld}
use Rattle.plaincells.specs.Plain.{plain_state, ShowsSome, HoldNames, names}

-- a list of zeros has 0 everywhere
pub zeros_at : (n c : ℕ) → get_or {A = ℕ} (replicate n 0) c 0 ≡ 0
zeros_at zero zero = refl
zeros_at zero (suc c) = refl
zeros_at (suc n) zero = refl
zeros_at (suc n) (suc c) = zeros_at n c

pub shows_none : (slots : ℕ) (st : State) → ((c : ℕ) → st.value c ≡ 0) → ShowsHeld slots st [] []
shows_none slots st zeros = (
  record {
    held = [];
    library = refl;
    holds = All-nil (λ (p : Held). Holds slots st [] p.slot p.entry);
    apart = tt;
    others = λ i lt. inr (record {
      name = zeros _;
      statement = zeros _;
      proof = zeros _;
      rank = zeros _;
      citers = zeros _;
      next =
          zeros _;
    });
    chained = λ b lt. record { chain = []; starts = zeros _; has = IsPermutation-refl [] };
  },
  refl,
)

pub none_verifies : (s : Setting) → IsSetting s → Verifies s []
none_verifies s h =
    record {
      setting = h;
      library = record {
        ranks = All-nil (λ (e : Ranked). (1 ≤ e.rank) × (e.rank ≤ 4294967295));
        lawful = All-nil (λ (e : Ranked). IsTrue (is_lawful_label s.prelude (label_of e)));
        distinct = tt;
        apart = apart_nil;
        room = omega arith;
      };
      fit = All-nil (λ (e : Ranked). Fits s.prelude e.assertion);
      checks = All-nil (λ (e : Ranked). Checks (citable s [] e.rank) s.prelude e.assertion);
    }

pub zeros_show : (s : Setting) (n : ℕ) (places : List Span) → IsSetting s → ShowsSome s (replicate n 0) [] places
zeros_show s n places h = ([], (shows_none s.slots (plain_state (replicate n 0) [] places) (zeros_at n)).0, none_verifies s h)

pub zeros_name : (slots n : ℕ) (ranges : List Range) → HoldNames slots (replicate n 0) ranges
zeros_name slots n ranges c v at ranged =
    let e : 0 ≡ v = sym (zeros_at n c) ∙ get_or_from_slice_get (replicate n 0) c v 0 at in
    ap (λ x. names ranges x) (sym e)
