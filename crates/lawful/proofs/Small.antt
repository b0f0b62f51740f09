-- The words of a library of one assertion, in two slots, show it.
use Rattle.std.proofs.Common.{ℕ, zero, suc, ◌<◌, [], ◌∷◌, refl, inl, inr, arith}
use Rattle.std.specs.Prelude.{◌⊎◌}
use Rattle.std.proofs.lemmas.List.Elements.{All-nil, All-cons}
use Rattle.std.proofs.lemmas.List.Sorted.{IsPermutation-refl}
use Rattle.mmsyntax.specs.Dotted.{hypothesis_numbered, is_dotted, trunk}
use Rattle.library.specs.Library.{ranked_from}
use Rattle.ranges.specs.Ranges.{Has, ranges_named}
use Rattle.cells.specs.State.{State}
use Rattle.cells.specs.Slots.{is_ranged}
use Rattle.cells.specs.Shows.{Holds, Held, IsEmpty, IsChained, slots_of}
use Rattle.lawful.specs.Lawful.{state_of}
use Rattle.lawful.specs.Laws.{we, small_store, small_values, OneAssertionIsShown}

abbrev state : State
state = state_of small_values (ranges_named (is_ranged 2) small_store small_values)

abbrev here : Held
here = record { slot = 0; entry = record { rank = 100; assertion = we } }

holds : Holds 2 state (ranked_from 1 (we ∷ [])) 0 (record { rank = 100; assertion = we })
holds = record {
  name = record { within = omega arith; body = record { start = 0; finished = inl refl; named = refl; some = λ h. cc } };
  statement = record { start = 2; finished = inr (inl refl); named = refl; some = λ h. cc };
  proof = (refl, refl);
  rank = refl;
  citers = refl;
}

empty : IsEmpty 2 state 1
empty = record { name = refl; statement = refl; proof = refl; rank = refl; citers = refl; next = refl }

chained : (b : ℕ) → b < 2 → IsChained 2 state (here ∷ []) b
unfolding trunk is_dotted hypothesis_numbered
chained zero lt = record { chain = 0 ∷ []; starts = (omega arith, refl, refl); has = IsPermutation-refl (0 ∷ []) }
chained (suc zero) lt = record { chain = []; starts = refl; has = IsPermutation-refl [] }
chained (suc (suc b)) lt = absurd (omega arith)

others : (i : ℕ) → i < 2 → Has i (slots_of (here ∷ [])) ⊎ IsEmpty 2 state i
others zero lt = inl (inl refl)
others (suc zero) lt = inr empty
others (suc (suc i)) lt = absurd (omega arith)

pub one_assertion_is_shown : OneAssertionIsShown
one_assertion_is_shown = record {
  held = here ∷ [];
  library = refl;
  holds = All-cons (λ (p : Held). Holds 2 state (ranked_from 1 (we ∷ [])) p.slot p.entry) here [] holds
      (All-nil (λ (p : Held). Holds 2 state (ranked_from 1 (we ∷ [])) p.slot p.entry));
  apart = (refl, tt);
  others = others;
  chained = chained;
}
