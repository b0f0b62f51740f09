-- The comment in front of a library says nothing, where the names in it are quiet.
use Rattle.std.proofs.Common.{◌≡◌, ◌∙◌, ℕ, List, [], ◌∷◌, ◌++◌, refl, sym, ap, subst, append_assoc, length}
use Rattle.std.specs.Prelude.{codes}
use Rattle.std.specs.List.{flat_map, AllByRecursion}
use Rattle.std.specs.Fmt.{decimal}
use Rattle.std.proofs.lemmas.List.Concat.{flat_map-cons}
use Rattle.mmtext.specs.Words.{Word}
use Rattle.mmsyntax.specs.Layout.{spaced}
use Rattle.mmsyntax.proofs.Distinct.{all_weaker}
use Rattle.sha2.specs.Sha256.{sha256}
use Rattle.source.specs.Views.{seen_words}
use Rattle.taketext.specs.Fronts.{SaysNothing}
use Rattle.taketext.proofs.Silent.{plain_comment}
use Rattle.taking.specs.declared.reason.Reason.{Reason}
use Rattle.taking.specs.declared.reason.Reason.TheVariants.{Unfinished, TooLong, InFront, CitesUnchosen, LongExpression}
use Rattle.taking.specs.Names.{Naming}
use Rattle.choosing.specs.declared.wish.Wish.{Wish}
use Rattle.choosing.specs.declared.wish.Wish.TheVariants as wish
use Rattle.choosing.specs.Choices.{labels_wished}
use Rattle.mmsyntax.proofs.Distinct.{all_left}
use Rattle.intake.specs.declared.taken.Taken.{Taken}
use Rattle.intake.specs.Intakes.{axioms_of, names_of}
use Rattle.taketext.specs.Comments.{shown_path, digits, chosen_line, name_line, reason_line, axiom_line, names_lines}
use Rattle.taketext.specs.Comments.{axioms_lines, comment_of}
use Rattle.taketext.proofs.Quiet.{AreQuiet, quiet_clean, quiet_plain, quiet_joined, quiet_front, quiet_flat, quiet_shown, quiet_decimal}
use Rattle.taketext.proofs.Quiet.{quiet_sum}

abbrev pub IsQuietNaming : Naming → Type 0
IsQuietNaming p = AreQuiet p.0 × AreQuiet p.1

abbrev pub IsQuietAxiom : Word × Reason → Type 0
IsQuietAxiom p = AreQuiet p.0

-- ---- lines

-- what follows the first word of a comment
abbrev source_inside : List ℕ → List ℕ → List ℕ
source_inside path source =
    codes "Taken by mmrefactor from "
    ++ (shown_path path ++ (10 ∷ codes "   " ++ (decimal (length source) ++ (codes " bytes, SHA-256 "
    ++ (flat_map digits (sha256 source) ++ 10 ∷ [])))))

quiet_source : (path source : List ℕ) → AreQuiet (source_inside path source)
quiet_source path source =
    let number = decimal (length source) in
    let sum = flat_map digits (sha256 source) in
    let blank = 10 ∷ codes "   " in
    let start = codes "Taken by mmrefactor from " in
    let middle = codes " bytes, SHA-256 " in
    quiet_joined (start ∷ shown_path path ∷ blank ∷ number ∷ middle ∷ sum ∷ (10 ∷ []) ∷ [])
    (refl, (quiet_shown path, (refl, (quiet_decimal (length source), (refl, (quiet_sum source, (refl, tt)))))))

quiet_spaced : (ws : List Word) → AllByRecursion AreQuiet ws → AreQuiet (spaced ws)
quiet_spaced ws h = quiet_flat (λ w. 32 ∷ w) ws (all_weaker AreQuiet (λ w. AreQuiet (32 ∷ w)) ws (λ w q. q) h)

quiet_wish : (w : Wish) → AllByRecursion AreQuiet (labels_wished w) → AreQuiet (chosen_line w)
quiet_wish wish.All h = refl
quiet_wish (wish.For asked) h =
    let words = seen_words asked.now in
    quiet_joined (codes "   Chosen: for" ∷ spaced words ∷ (10 ∷ []) ∷ []) (refl, (quiet_spaced words h, (refl, tt)))
quiet_wish (wish.Between from to) h =
    quiet_joined (codes "   Chosen: from " ∷ from.now ∷ codes " to " ∷ to.now ∷ (10 ∷ []) ∷ [])
    (refl, (h.0, (refl, (h.1.0, (refl, tt)))))
quiet_wish (wish.These labels axioms) h =
    let words = seen_words labels.now in
    let all = all_left AreQuiet words (seen_words axioms.now) h in
    quiet_joined (codes "   Chosen: just" ∷ spaced words ∷ (10 ∷ []) ∷ []) (refl, (quiet_spaced words all, (refl, tt)))

quiet_name : (p : Naming) → IsQuietNaming p → AreQuiet (name_line p)
quiet_name p h =
    quiet_joined (codes "     " ∷ p.0 ∷ codes " is " ∷ p.1 ∷ (10 ∷ []) ∷ []) (refl, (h.0, (refl, (h.1, (refl, tt)))))

quiet_names : (ns : List Naming) → AllByRecursion IsQuietNaming ns → AreQuiet (names_lines ns)
quiet_names ns h =
    let lines = quiet_flat name_line ns (all_weaker IsQuietNaming (λ p. AreQuiet (name_line p)) ns quiet_name h) in
    quiet_joined (codes "   Changed names: " ∷ decimal (length ns) ∷ (10 ∷ []) ∷ flat_map name_line ns ∷ [])
    (refl, (quiet_decimal (length ns), (refl, (lines, tt))))

quiet_reason : (r : Reason) → AreQuiet (reason_line r)
quiet_reason Unfinished = refl
quiet_reason TooLong = refl
quiet_reason InFront = refl
quiet_reason CitesUnchosen = refl
quiet_reason LongExpression = refl

quiet_axiom : (p : Word × Reason) → IsQuietAxiom p → AreQuiet (axiom_line p)
quiet_axiom p h = quiet_joined (codes "     " ∷ p.0 ∷ reason_line p.1 ∷ []) (refl, (h, (quiet_reason p.1, tt)))

quiet_axioms : (ps : List (Word × Reason)) → AllByRecursion IsQuietAxiom ps → AreQuiet (axioms_lines ps)
quiet_axioms ps h =
    let lines = quiet_flat axiom_line ps (all_weaker IsQuietAxiom (λ p. AreQuiet (axiom_line p)) ps quiet_axiom h) in
    quiet_joined (codes "   Theorems taken as axioms, their proofs unchecked: " ∷ decimal (length ps) ∷ (10 ∷ []) ∷ flat_map axiom_line ps ∷ [])
    (refl, (quiet_decimal (length ps), (refl, (lines, tt))))

-- ---- the last line ends in front of $)

-- the last byte is a line feed
record EndsLine (bytes : List ℕ) : Type 0 where
  before : List ℕ
  is : bytes ≡ before ++ 10 ∷ []

line_behind : (a b : List ℕ) → EndsLine b → EndsLine (a ++ b)
line_behind a b e = record { before = a ++ e.before; is = ap (λ x. a ++ x) e.is ∙ sym (append_assoc a e.before (10 ∷ [])) }

reason_ends : (r : Reason) → EndsLine (reason_line r)
reason_ends Unfinished = record { before = codes ": its proof is unfinished"; is = refl }
reason_ends TooLong = record { before = codes ": its proof has over 16384 steps"; is = refl }
reason_ends InFront = record { before = codes ": it stands in front of the choice"; is = refl }
reason_ends CitesUnchosen = record { before = codes ": it cites what is not chosen"; is = refl }
reason_ends LongExpression = record { before = codes ": an expression of its proof has over 65535 symbols"; is = refl }

axiom_ends : (p : Word × Reason) → EndsLine (axiom_line p)
axiom_ends p = line_behind (codes "     ") (p.0 ++ reason_line p.1) (line_behind p.0 (reason_line p.1) (reason_ends p.1))

-- lines behind a line feed
lines_end : (ps : List (Word × Reason)) → EndsLine (10 ∷ flat_map axiom_line ps)
lines_end [] = record { before = []; is = refl }
lines_end (p ∷ ps) =
    let first = axiom_ends p in
    let rest = flat_map axiom_line ps in
    let split : 10 ∷ flat_map axiom_line (p ∷ ps) ≡ (10 ∷ first.before) ++ (10 ∷ rest) =
    ap (λ x. 10 ∷ x) (flat_map-cons axiom_line p ps ∙ ap (λ x. x ++ rest) first.is ∙ append_assoc first.before (10 ∷ []) rest) in
    subst EndsLine (sym split) (line_behind (10 ∷ first.before) (10 ∷ rest) (lines_end ps))

axioms_end : (ps : List (Word × Reason)) → EndsLine (axioms_lines ps)
axioms_end ps =
    let lines = 10 ∷ flat_map axiom_line ps in
    line_behind (codes "   Theorems taken as axioms, their proofs unchecked: ") (decimal (length ps) ++ lines)
    (line_behind (decimal (length ps)) lines (lines_end ps))

-- ---- the comment

-- it is what says nothing, and a line feed
pub record IsSilent (comment : List ℕ) : Type 0 where
  pub front : List ℕ
  pub nothing : SaysNothing front
  pub is : comment ≡ front ++ 10 ∷ []

gathered : (s c n a e : List ℕ) → s ++ (c ++ (n ++ (a ++ e))) ≡ (s ++ (c ++ (n ++ a))) ++ e
gathered s c n a e =
    sym (append_assoc s (c ++ (n ++ a)) e ∙ ap (λ x. s ++ x) (append_assoc c (n ++ a) e ∙ ap (λ x. c ++ x) (append_assoc n a e)))

-- lines between $( and $)
lines_silent : (s c n a : List ℕ) → AreQuiet s → AreQuiet c → AreQuiet n → AreQuiet a → EndsLine a
    → IsSilent ((codes "$(" ++ 32 ∷ s) ++ (c ++ (n ++ (a ++ (codes "$)" ++ 10 ∷ [])))))
lines_silent s c n a qs qc qn qa e =
    let inside = s ++ (c ++ (n ++ e.before)) in
    let last : AreQuiet e.before = quiet_front e.before (10 ∷ []) (subst AreQuiet e.is qa) in
    let quiet : AreQuiet inside = quiet_joined (s ∷ c ∷ n ∷ e.before ∷ []) (qs, (qc, (qn, (last, tt)))) in
    let end : a ++ (codes "$)" ++ 10 ∷ []) ≡ e.before ++ (10 ∷ (codes "$)" ++ 10 ∷ [])) =
    ap (λ x. x ++ (codes "$)" ++ 10 ∷ [])) e.is ∙ append_assoc e.before (10 ∷ []) (codes "$)" ++ 10 ∷ []) in
    let bytes : s ++ (c ++ (n ++ (a ++ (codes "$)" ++ 10 ∷ [])))) ≡ (inside ++ (10 ∷ codes "$)")) ++ 10 ∷ [] =
    ap (λ x. s ++ (c ++ (n ++ x))) end ∙ gathered s c n e.before (10 ∷ (codes "$)" ++ 10 ∷ []))
    ∙ sym (append_assoc inside (10 ∷ codes "$)") (10 ∷ [])) in
    record {
      front = codes "$(" ++ (32 ∷ (inside ++ (10 ∷ codes "$)")));
      nothing = plain_comment 32 10 inside refl refl (quiet_clean inside quiet) (quiet_plain inside quiet);
      is = ap (λ x. codes "$(" ++ (32 ∷ x)) bytes;
    }

pub comment_silent : (path source : List ℕ) (w : Wish) (t : Taken) → AllByRecursion AreQuiet (labels_wished w)
    → AllByRecursion IsQuietNaming (names_of t) → AllByRecursion IsQuietAxiom (axioms_of t) → IsSilent (comment_of path source w t)
comment_silent path source w t labels names axioms =
    lines_silent (source_inside path source) (chosen_line w) (names_lines (names_of t)) (axioms_lines (axioms_of t))
    (quiet_source path source) (quiet_wish w labels) (quiet_names (names_of t) names) (quiet_axioms (axioms_of t) axioms)
    (axioms_end (axioms_of t))
