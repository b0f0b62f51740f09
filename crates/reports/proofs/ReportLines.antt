-- The lines of a report, one transaction after another, and one script after another.
use Rattle.std.proofs.Common.{◌≡◌, ℕ, suc, ◌+◌, ◌<◌, List, Vec, [], ◌∷◌, ◌++◌, length, get_or, drop, sym, ap, subst, ◌∙◌, append_assoc, add-one, arith}
use Rattle.std.specs.Prelude.{All}
use Rattle.std.specs.declared.alloc.Global.{Global}
use Rattle.std.proofs.lemmas.List.Elements.{All-head, All-tail}
use Rattle.std.proofs.Math.Seq.{drop-cons}
use Rattle.std.specs.Fmt.{decimal}
use Rattle.mmsyntax.specs.Tables.{Tables}
use Rattle.transaction.specs.declared.outcome.Outcome.{Outcome}
use Rattle.transaction.specs.Closings.{lists_of}
use Rattle.reports.specs.Reports.{IsReportable, AreReportable, outcome_text, numbered_text, script_text_from, scripts_text_from, report_text}

-- from the place of an item on, a list has the item and then what stands behind it
pub here : {A : Type 0} (xs : List A) (i : ℕ) (x : A) → i < length xs → x ≡ get_or xs i x → drop i xs ≡ x ∷ drop (i + 1) xs
here xs i x within is =
    drop-cons xs i x within ∙ ap (λ y. y ∷ drop (suc i) xs) (sym is) ∙ ap (λ k. x ∷ drop k xs) (sym (add-one i))

-- one more transaction
pub told_on : (t : Tables) (s i : ℕ) (out number mid end all : List ℕ) (os : List Outcome) (o : Outcome) → i < length os → o ≡ get_or os i o
    → number ≡ decimal s ++ 46 ∷ (decimal (i + 1) ++ 32 ∷ []) → mid ≡ out ++ number → end ≡ mid ++ outcome_text t o
    → out ++ script_text_from t s (i + 1) (drop i os) ≡ all → end ++ script_text_from t s (i + 1 + 1) (drop (i + 1) os) ≡ all
told_on t s i out number mid end all os o within is numbered is_mid is_end before =
    let rest = script_text_from t s (i + 1 + 1) (drop (i + 1) os) in
    let ends : end ≡ (out ++ (decimal s ++ 46 ∷ (decimal (i + 1) ++ 32 ∷ []))) ++ outcome_text t o =
    is_end ∙ ap (λ m. m ++ outcome_text t o) (is_mid ∙ ap (λ n. out ++ n) numbered) in
    let joined : ((out ++ (decimal s ++ 46 ∷ (decimal (i + 1) ++ 32 ∷ []))) ++ outcome_text t o) ++ rest
    ≡ out ++ (numbered_text t s (i + 1) o ++ rest) =
    simp append_assoc in
    ap (λ e. e ++ rest) ends ∙ joined ∙ ap (λ xs. out ++ script_text_from t s (i + 1) xs) (sym (here os i o within is)) ∙ before

-- so many rows are told: the text, with the lines of those that are left behind it, is the report, and those can be printed
pub record AreLeft (t : Tables) (rows : List (Vec Outcome Global)) (out : List ℕ) (told : ℕ) (left : List (Vec Outcome Global)) (count : ℕ)
    : Type 0 where
  pub text : out ++ scripts_text_from t (told + 1) (lists_of left) ≡ report_text t (lists_of rows)
  pub fit : AreReportable t (lists_of left)
  pub counted : told + length left ≡ length rows
  pub count_is : count ≡ length left

-- one more script
pub row_on : (t : Tables) (rows left rest : List (Vec Outcome Global)) (out end : List ℕ) (told count less : ℕ) (row : Vec Outcome Global)
    (os : List Outcome) → AreLeft t rows out told left count → left ≡ row ∷ rest → less + 1 ≡ count → os ≡ row.items
    → end ≡ out ++ script_text_from t (told + 1) 1 os → AreLeft t rows end (told + 1) rest less
row_on t rows left rest out end told count less row os a next one same is_end =
    let size = ap length next in
    let counted = a.counted in
    let count_is = a.count_is in
    let behind = scripts_text_from t (told + 1 + 1) (lists_of rest) in
    record {
      text =
          ap (λ e. e ++ behind) (is_end ∙ ap (λ (xs : List Outcome). out ++ script_text_from t (told + 1) 1 xs) same)
          ∙ append_assoc out (script_text_from t (told + 1) 1 row.items) behind
          ∙ ap (λ (xs : List (Vec Outcome Global)). out ++ scripts_text_from t (told + 1) (lists_of xs)) (sym next) ∙ a.text;
      fit =
          All-tail (All (IsReportable t)) row.items (lists_of rest)
          (subst (λ (xs : List (Vec Outcome Global)). AreReportable t (lists_of xs)) next a.fit);
      counted = omega (arith, size, counted);
      count_is = omega (arith, one, count_is, size);
    }

-- the outcomes of the next script can be printed
pub next_fits : (t : Tables) (rows left rest : List (Vec Outcome Global)) (out : List ℕ) (told count : ℕ) (row : Vec Outcome Global)
    (os : List Outcome) → AreLeft t rows out told left count → left ≡ row ∷ rest → os ≡ row.items → All (IsReportable t) os
next_fits t rows left rest out told count row os a next same =
    let fit = subst (λ (xs : List (Vec Outcome Global)). AreReportable t (lists_of xs)) next a.fit in
    subst (All (IsReportable t)) (sym same) (All-head (All (IsReportable t)) row.items (lists_of rest) fit)
