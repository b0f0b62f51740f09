-- How many entries steps leave.
use Rattle.std.proofs.Common.{◌≡◌, ◌∙◌, ◌<◌, ◌+◌, ℕ, suc, Bool, List, [], ◌∷◌, length, drop, slice_index_or, sym, ap, subst}
use Rattle.std.proofs.lemmas.List.{drop_more}
use Rattle.mmsyntax.specs.declared.statement.Step.{Step}
use Rattle.mmtext.specs.Words.{Word}
use Rattle.source.specs.Scopes.{Hypothesis}
use Rattle.sourcewriting.specs.Leaving.{Lead, CanBePut}

-- the next of them
pub led_on : (takes : Step → ℕ → Type 0) (before : ℕ) (steps : List Step) (i : ℕ) (step : Step) → i < length steps
    → step ≡ slice_index_or steps i step → Lead takes before (drop i steps) 1 → Lead takes before (step ∷ drop (i + 1) steps) 1
led_on takes before steps i step within is lead =
    subst (λ xs. Lead takes before xs 1) (drop_more steps i step within ∙ ap (λ x. x ∷ drop (i + 1) steps) (sym is)) lead

-- so they do where more is known of steps
lead_where : (takes known : Step → ℕ → Type 0) → ((step : Step) (n : ℕ) → takes step n → known step n) → (before : ℕ)
    → (steps : List Step) (after : ℕ) → Lead takes before steps after → Lead known before steps after
lead_where takes known within before [] after lead = lead
lead_where takes known within before (step ∷ steps) after lead =
    (lead.0, lead.1, within step lead.1 lead.2, lead.3, lead_where takes known within (suc lead.0) steps after lead.4)

-- a proof can be put there where more is known of steps, and less of labels
pub put_where : (step_takes step_known : Step → ℕ → Type 0) (takes known : Word → ℕ → Type 0) (is_compressed : Bool)
    → (hypotheses : List Hypothesis) (steps : List Step) → ((step : Step) (n : ℕ) → step_takes step n → step_known step n)
    → ((label : Word) (n : ℕ) → known label n → takes label n) → CanBePut step_takes takes is_compressed hypotheses steps
    → CanBePut step_known known is_compressed hypotheses steps
put_where step_takes step_known takes known is_compressed hypotheses steps within without can = (
  record {
    few = can.0.few;
    one = lead_where step_takes step_known within 0 steps 1 can.0.one;
    names = λ label n takes. can.0.names label n (without label n takes);
  },
  λ is. record {
    alike = λ label one other p q. (can.1 is).alike label one other (without label one p) (without label other q);
    few = (can.1 is).few;
  },
)
