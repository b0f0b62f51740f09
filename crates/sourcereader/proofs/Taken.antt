-- Words without $: where they lead in an expression or a proof, which grows where it lies.
use Rattle.std.proofs.Common.{◌≡◌, true, false, List, [], ◌∷◌, ◌++◌, Option, Some, None, Result, Ok, Err}
use Rattle.std.proofs.Common.{refl, sym, ap, subst, ◌∙◌, Bool}
use Rattle.std.specs.Prelude.{OnOk, codes}
use Rattle.std.specs.Str.{bytes_eq}
use Rattle.mmtext.specs.declared.fault.FaultKind.{FaultKind}
use Rattle.mmtext.specs.declared.fault.TextFault.{TextFault}
use Rattle.mmtext.specs.declared.fault.Stop.{Stop}
use Rattle.mmtext.specs.declared.fault.Stop.TheVariants as stop
use Rattle.mmtext.specs.declared.mark.Mark.TheVariants as mark
use Rattle.mmtext.specs.Words.{Word, has_dollar}
use Rattle.mmtext.specs.Text.{Token}
use Rattle.mmtext.specs.Takings.{TakesWord}
use Rattle.mmtext.specs.Views.{Fails}
use Rattle.mmtext.proofs.Marks.{mark_plain}
use Rattle.mmsyntax.specs.Rows.{first_fault}
use Rattle.source.specs.Scopes.{Stand}
use Rattle.source.specs.Tests.{symbol_tests, step_tests, cited_tests, letter_tests}
use Rattle.source.specs.Faults.{Place, in_hypothesis, in_axiom, in_theorem, in_steps, in_labels, in_letters, Position, Next}
use Rattle.source.specs.Faults.{faulted, tested, in_place, row}
use Rattle.source.specs.Faults.{source_language}
use Rattle.sourcereader.specs.declared.place.Place.{Place as CodePlace}
use Rattle.sourcereader.specs.Standing.{IsCounted, IsReadySource}
use Rattle.sourcereader.specs.Takings.{one_more, TakesItem}
use Rattle.sourcereader.specs.Views.{standing_at, seen_at}
use Rattle.sourcereader.proofs.Grown.{proof_grows, labels_grow, letters_grow}
use Rattle.sourcereader.proofs.Runs.{StandsAt, OkStands, row_at, row_stands}

-- ---- one more word

put_behind : (o : Option FaultKind) (t : Token) (old new : List Word) (at : List Word → Position) → one_more t old o ≡ Ok new
    → faulted t o (Ok (at (old ++ t.text ∷ []))) ≡ Ok (at new)
put_behind None t old new at h = let e : old ++ t.text ∷ [] ≡ new = cc in ap (λ x. Ok (at x)) e
put_behind (Some kind) t old new at h = absurd cc

fails_behind : (o : Option FaultKind) (t : Token) (old : List Word) (next : Next) (f : TextFault) → one_more t old o ≡ Err f
    → faulted t o next ≡ Err f
fails_behind None t old next f h = absurd cc
fails_behind (Some kind) t old next f h =
    let e : the_fault t kind ≡ f = cc in ap (λ x. Err x) e
  where
    the_fault : Token → FaultKind → TextFault
    the_fault t kind = record { place = t.place; kind = kind }

-- a word that is put behind others leads there
item_taken : (s : Stand) (place : List Word → Place) (o : Option FaultKind) (t : Token) (old new : List Word) (r : Result Bool Stop)
    → (has_dollar t.text ≡ false → row (standing_at s (place old)) t ≡ faulted t o (Ok (standing_at s (place (old ++ t.text ∷ [])))))
    → TakesItem t o old new r → TakesWord source_language (standing_at s (place old)) t (standing_at s (place new)) r
item_taken s place o t old new (Ok true) leads h =
    (h.0, leads h.0 ∙ put_behind o t old new (λ ws. standing_at s (place ws)) h.1)
item_taken s place o t old new (Ok false) leads h = ap (λ ws. standing_at s (place ws)) h
item_taken s place o t old new (Err stop.Memory) leads h = tt
item_taken s place o t old new (Err (stop.Fault f)) leads h =
    (h.0, leads h.0 ∙ fails_behind o t old (Ok (standing_at s (place (old ++ t.text ∷ [])))) f h.1)

-- ---- rows

row_plain : (p : Position) (t : Token) → has_dollar t.text ≡ false → row p t ≡ in_place p p.place t mark.Plain
row_plain p t h = row_at p t mark.Plain (sym (mark_plain t.text h))

hypothesis_word : (s : Stand) (label : Word) (e : List Word) (t : Token)
    → in_place (standing_at s (in_hypothesis label e)) (in_hypothesis label e) t mark.Plain
    ≡ tested t (symbol_tests s.scope e t.text) (Ok (standing_at s (in_hypothesis label (e ++ t.text ∷ []))))
hypothesis_word s label [] t = refl
hypothesis_word s label (c ∷ e) t = refl

axiom_word : (s : Stand) (label : Word) (e : List Word) (t : Token)
    → in_place (standing_at s (in_axiom label e)) (in_axiom label e) t mark.Plain
    ≡ tested t (symbol_tests s.scope e t.text) (Ok (standing_at s (in_axiom label (e ++ t.text ∷ []))))
axiom_word s label [] t = refl
axiom_word s label (c ∷ e) t = refl

theorem_word : (s : Stand) (label : Word) (e : List Word) (t : Token)
    → in_place (standing_at s (in_theorem label e)) (in_theorem label e) t mark.Plain
    ≡ tested t (symbol_tests s.scope e t.text) (Ok (standing_at s (in_theorem label (e ++ t.text ∷ []))))
theorem_word s label [] t = refl
theorem_word s label (c ∷ e) t = refl

-- ---- places

pub hypothesis_taken : (s : Stand) (label : Word) (t : Token) (old new : List Word) (r : Result Bool Stop)
    → TakesItem t (first_fault (symbol_tests s.scope old t.text)) old new r
    → TakesWord source_language (standing_at s (in_hypothesis label old)) t (standing_at s (in_hypothesis label new)) r
hypothesis_taken s label t old new r h =
    item_taken s (λ e. in_hypothesis label e) _ t old new r
    (λ d. row_plain (standing_at s (in_hypothesis label old)) t d ∙ hypothesis_word s label old t) h

pub axiom_taken : (s : Stand) (label : Word) (t : Token) (old new : List Word) (r : Result Bool Stop)
    → TakesItem t (first_fault (symbol_tests s.scope old t.text)) old new r
    → TakesWord source_language (standing_at s (in_axiom label old)) t (standing_at s (in_axiom label new)) r
axiom_taken s label t old new r h =
    item_taken s (λ e. in_axiom label e) _ t old new r
    (λ d. row_plain (standing_at s (in_axiom label old)) t d ∙ axiom_word s label old t) h

pub theorem_taken : (s : Stand) (label : Word) (t : Token) (old new : List Word) (r : Result Bool Stop)
    → TakesItem t (first_fault (symbol_tests s.scope old t.text)) old new r
    → TakesWord source_language (standing_at s (in_theorem label old)) t (standing_at s (in_theorem label new)) r
theorem_taken s label t old new r h =
    item_taken s (λ e. in_theorem label e) _ t old new r
    (λ d. row_plain (standing_at s (in_theorem label old)) t d ∙ theorem_word s label old t) h

pub steps_taken : (s : Stand) (label : Word) (e : List Word) (t : Token) (old new : List Word) (r : Result Bool Stop)
    → (old ≡ [] → bytes_eq t.text (codes "(") ≡ false) → TakesItem t (first_fault (step_tests s.scope old t.text)) old new r
    → TakesWord source_language (standing_at s (in_steps label e old)) t (standing_at s (in_steps label e new)) r
steps_taken s label e t old new r other h =
    let here = standing_at s (in_steps label e old) in
    item_taken s (λ ws. in_steps label e ws) _ t old new r
    (λ d. row_plain here t d ∙ proof_grows here label e old t mark.Plain other (λ is. absurd (cc))) h

pub labels_taken : (s : Stand) (label : Word) (e : List Word) (t : Token) (old new : List Word) (r : Result Bool Stop)
    → bytes_eq t.text (codes ")") ≡ false → TakesItem t (first_fault (cited_tests s.scope e t.text)) old new r
    → TakesWord source_language (standing_at s (in_labels label e old)) t (standing_at s (in_labels label e new)) r
labels_taken s label e t old new r other h =
    let here = standing_at s (in_labels label e old) in
    item_taken s (λ ws. in_labels label e ws) _ t old new r (λ d. row_plain here t d ∙ labels_grow here label e old t other) h

pub letters_taken : (s : Stand) (label : Word) (e ws : List Word) (t : Token) (old new : List Word) (r : Result Bool Stop)
    → TakesItem t (first_fault (letter_tests s.scope e ws old t.text)) old new r
    → TakesWord source_language (standing_at s (in_letters label e ws old)) t (standing_at s (in_letters label e ws new)) r
letters_taken s label e ws t old new r h =
    let here = standing_at s (in_letters label e ws old) in
    item_taken s (λ ls. in_letters label e ws ls) _ t old new r
    (λ d. row_plain here t d ∙ letters_grow here label e ws old t mark.Plain (λ is. absurd (cc))) h

-- a word that can't be put behind others
pub fails_item : (why : Stop) (t : Token) (o : Option FaultKind) (old new : List Word) → has_dollar t.text ≡ false
    → Fails why (one_more t old o) → TakesItem t o old new (Err why)
fails_item stop.Memory t o old new d h = tt
fails_item (stop.Fault f) t o old new d h = (d, h)

-- what is so of a place is so of that where the word was taken
pub ready_after : (s : Stand) (marks : List Bool) (p q : CodePlace) (t : Token) (r : Result Bool Stop) → StandsAt (seen_at s p)
    → TakesWord source_language (seen_at s p) t (seen_at s q) r → OnOk r (IsCounted s.scope marks q) → OnOk r (IsReadySource s marks q)
ready_after s marks p q t (Ok true) h taken counted =
    record { stands = subst OkStands taken.1 (row_stands (seen_at s p) t h); counted = counted }
ready_after s marks p q t (Ok false) h taken counted = record { stands = subst StandsAt (sym taken) h; counted = counted }
ready_after s marks p q t (Err e) h taken counted = tt
