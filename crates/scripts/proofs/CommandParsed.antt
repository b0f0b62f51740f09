-- Commands within another language: tokens that lead through their rows are their words.
use Rattle.std.proofs.Common.{◌≡◌, ◌≢◌, ℕ, zero, suc, ◌<◌, ◌≤◌, List, [], ◌∷◌, ◌++◌, length, Result, Ok, Err, refl, sym, ap, subst, ◌∙◌}
use Rattle.std.proofs.Common.{◌⊎◌, inl, inr, arith, append_assoc, append-nil}
use Rattle.std.specs.Prelude.{codes}
use Rattle.std.specs.Str.{bytes_eq}
use Rattle.std.proofs.lemmas.Bool.{cases_Bool, cond-true, cond-false}
use Rattle.mmtext.specs.declared.fault.FaultKind.{FaultKind}
use Rattle.mmtext.specs.declared.fault.FaultKind.TheVariants.{BadToken}
use Rattle.mmtext.specs.declared.fault.TextFault.{TextFault}
use Rattle.mmtext.specs.Text.{Token}
use Rattle.mmtext.specs.Words.{Word}
use Rattle.mmtext.specs.Comments.{words_of}
use Rattle.mmtext.specs.Languages.{Language}
use Rattle.walks.proofs.Walks.{walk, walk_none, walk_cons, same_word}
use Rattle.mmsyntax.specs.declared.statement.Step.{Step}
use Rattle.mmsyntax.specs.Tables.{Tables}
use Rattle.mmsyntax.specs.Grammar.{spelling}
use Rattle.library.specs.declared.command.Command.{Command}
use Rattle.scripts.specs.Scripts.{OtherSteps, Part, a_word, a_rank, a_unit, a_proof, parts, SpellsPart, SpellsCommand, SpellsEach}
use Rattle.scripts.specs.Scripts.{other_step_of}
use Rattle.scripts.specs.ScriptFaults.{CommandPlace, at_end, at_label, at_rank, in_unit, at_proof, in_proof, Led, to, bad}
use Rattle.scripts.specs.ScriptFaults.{step_led, in_command, command_word}
use Rattle.scripts.proofs.ScriptRows.{label_case, rank_case, verb_case, proof_case, step_case, Tells}
use Rattle.scripts.proofs.InnerUnits.{reads_unit}
use Rattle.scripts.proofs.CommandWords.{next_of, Asking, and_one, stands, stands_is, Asks, has_units}

-- a token led to a place
abbrev pub on : {P : Type 0} → P → Result P TextFault
on p = Ok p

-- a place that is neither between commands nor in one
pub record IsApart {P : Type 0} (places : Asking P) (final : P) : Type 0 where
  pub between : (cs : List Command) → places.between cs ≡ final → ⊥
  pub inner : (cs : List Command) (p : CommandPlace) → places.inner cs p ≡ final → ⊥

module _ {P A : Type 0} (l : Language P A) (t : Tables) (places : Asking P) (asks : Asks l t places) (final : P)
    (apart : IsApart places final) where
  abbrev Walks : P → List Token → Type 0
  Walks p ts = walk l p ts ≡ Ok final

  -- a token led to a place, from which the walk goes on
  moved : (p q : P) (ts : List Token) → on p ≡ Ok q → walk l q ts ≡ Ok final → Walks p ts
  moved p q ts e h =
      let same : p ≡ q = cc in
      subst (λ x. walk l x ts ≡ Ok final) (sym same) h

  -- where a token in a command leads
  abbrev leads_to : List Command → Token → Led → Result P TextFault
  leads_to cs u next = next_of (places.inner cs) (and_one places cs) u next

  -- and a walk from there
  abbrev Leads : List Command → Token → List Token → Led → Type 0
  Leads cs u ts next = (q : P) × (leads_to cs u next ≡ Ok q) × (walk l q ts ≡ Ok final)

  not_bad : {R : Type 0} (cs : List Command) (u : Token) (ts : List Token) (kind : FaultKind) → Leads cs u ts (bad kind) → R
  not_bad cs u ts kind (q, e, h) = absurd cc

  -- the place to which a token leads
  goes_on : (cs : List Command) (u : Token) (ts : List Token) (p : CommandPlace) → Leads cs u ts (to p) → Walks (stands places cs p) ts
  goes_on cs u ts p x = moved (stands places cs p) x.0 ts (sym (stands_is places cs u p) ∙ x.1) x.2

  -- a token in a command
  record ReadsToken (cs : List Command) (p : CommandPlace) (ts : List Token) : Type 0 where
    token : Token
    rest : List Token
    whole : ts ≡ token ∷ rest
    leads : Leads cs token rest (in_command t p token)

  reads_token : (cs : List Command) (p : CommandPlace) (ts : List Token) → Walks (places.inner cs p) ts → ReadsToken cs p ts
  reads_token cs p [] h = absurd (apart.inner cs p (walk_none l (places.inner cs p) final h))
  reads_token cs p (u ∷ ts) h =
      let r = walk_cons l (places.inner cs p) final u ts h in
      record { token = u; rest = ts; whole = refl; leads = (r.0, sym (asks.commands cs p u) ∙ r.1, r.2) }

  -- ---- steps

  record ReadsSteps (cs : List Command) (label : Word) (made : List Step → Command) (front : List Step) (ts : List Token) : Type 0 where
    words : List Word
    steps : List Step
    rest : List Token
    parts : words_of ts ≡ words ++ codes "$." ∷ words_of rest
    any : (front ≢ []) ⊎ (words ≢ [])
    read : OtherSteps t label front words steps
    walks : Walks (and_one places cs (made steps)) rest
    shorter : length rest < length ts

  reads_steps : (cs : List Command) (label : Word) (made : List Step → Command) (front : List Step) (ts : List Token)
      → Walks (places.inner cs (in_proof label made front)) ts → ReadsSteps cs label made front ts
  reads_steps cs label made front [] h =
      absurd (apart.inner cs (in_proof label made front) (walk_none l (places.inner cs (in_proof label made front)) final h))
  reads_steps cs label made front (u ∷ ts) h =
      let r = walk_cons l (places.inner cs (in_proof label made front)) final u ts h in
      step_case (λ x. Leads cs u ts x → ReadsSteps cs label made front (u ∷ ts)) t label made front u
      (λ some text leads. record {
        words = [];
        steps = front;
        rest = ts;
        parts = ap (λ w. w ∷ words_of ts) text;
        any = inl some;
        read = refl;
        walks = goes_on cs u ts (at_end (made front)) leads;
        shorter = omega arith;
      })
      (λ leads. go (λ x g. reads_steps cs label made (front ++ x ∷ []) ts g) (other_step_of t label (length front) u.text) refl leads)
      (r.0, sym (asks.commands cs (in_proof label made front) u) ∙ r.1, r.2)
    where
      go : ((x : Step) → Walks (places.inner cs (in_proof label made (front ++ x ∷ []))) ts
          → ReadsSteps cs label made (front ++ x ∷ []) ts)
          → (o : Result Step FaultKind) → other_step_of t label (length front) u.text ≡ o → Leads cs u ts (step_led label made front o)
          → ReadsSteps cs label made front (u ∷ ts)
      go again (Err kind) e leads = not_bad cs u ts kind leads
      go again (Ok x) e leads =
          let o = again x (goes_on cs u ts (in_proof label made (front ++ x ∷ [])) leads) in
          record {
            words = u.text ∷ o.words;
            steps = o.steps;
            rest = o.rest;
            parts = ap (λ ws. u.text ∷ ws) o.parts;
            any = inr (λ n. absurd cc);
            read = (x, e, o.read);
            walks = o.walks;
            shorter = let lt : length o.rest < length ts = o.shorter in omega arith;
          }

  -- ---- parts

  -- the parts of a command behind others, and a walk on from behind it
  record ReadsParts (cs : List Command) (front : List Part) (ts : List Token) : Type 0 where
    command : Command
    behind : List Part
    words : List Word
    rest : List Token
    whole : words_of ts ≡ words ++ words_of rest
    consists : parts command ≡ front ++ behind
    spells : SpellsEach (SpellsPart t) behind words
    walks : Walks (and_one places cs command) rest
    shorter : length rest ≤ length ts

  -- one more part before them, which is one word
  one_more : (cs : List Command) (front : List Part) (p : Part) (u : Token) (ts : List Token) → SpellsPart t p (u.text ∷ [])
      → ReadsParts cs (front ++ p ∷ []) ts → ReadsParts cs front (u ∷ ts)
  one_more cs front p u ts spells o = record {
    command = o.command;
    behind = p ∷ o.behind;
    words = u.text ∷ o.words;
    rest = o.rest;
    whole = ap (λ ws. u.text ∷ ws) o.whole;
    consists = o.consists ∙ append_assoc front (p ∷ []) o.behind;
    spells = (u.text ∷ [], o.words, refl, spells, o.spells);
    walks = o.walks;
    shorter = let le : length o.rest ≤ length ts = o.shorter in omega arith;
  }

  -- one part that is the last
  last_one : (cs : List Command) (front : List Part) (p : Part) (c : Command) (words : List Word) (ts rest : List Token)
      → words_of ts ≡ words ++ words_of rest → parts c ≡ front ++ p ∷ [] → SpellsPart t p words → Walks (and_one places cs c) rest
      → length rest < length ts → ReadsParts cs front ts
  last_one cs front p c words ts rest whole consists spells walks shorter = record {
    command = c;
    behind = p ∷ [];
    words = words;
    rest = rest;
    whole = whole;
    consists = consists;
    spells = (words, [], sym (append-nil words), spells, refl);
    walks = walks;
    shorter = omega (arith, shorter);
  }

  -- $= and steps
  reads_proof : (cs : List Command) (front : List Part) (label : Word) (made : List Step → Command) (ts : List Token)
      → ((steps : List Step) → parts (made steps) ≡ front ++ a_proof label steps ∷ []) → Walks (places.inner cs (at_proof label made)) ts
      → ReadsParts cs front ts
  reads_proof cs front label made ts tells h =
      let r = reads_token cs (at_proof label made) ts h in
      subst (ReadsParts cs front) (sym r.whole)
      (proof_case (λ x. Leads cs r.token r.rest x → ReadsParts cs front (r.token ∷ r.rest)) label made r.token.text
      (λ text leads.
      let d = reads_steps cs label made [] r.rest (goes_on cs r.token r.rest (in_proof label made []) leads) in
      let some : d.words ≢ [] = elim d.any [ inl n ↦ absurd (n refl) | inr y ↦ y ] in
      let less : length d.rest < length r.rest = d.shorter in
      last_one cs front (a_proof label d.steps) (made d.steps) (codes "$=" ∷ (d.words ++ codes "$." ∷ [])) (r.token ∷ r.rest) d.rest
      (ap (λ w. w ∷ words_of r.rest) text
      ∙ ap (λ ws. codes "$=" ∷ ws) (d.parts ∙ sym (append_assoc d.words (codes "$." ∷ []) (words_of d.rest))))
      (tells d.steps) (d.words, some, d.read, refl) d.walks (omega arith))
      (λ x. not_bad cs r.token r.rest BadToken x) r.leads)

  reads_parts : (cs : List Command) (front : List Part) (p : CommandPlace) (ts : List Token) → Tells t front p
      → Walks (stands places cs p) ts → ReadsParts cs front ts
  reads_parts cs front (at_end c) ts tells h = record {
    command = c;
    behind = [];
    words = [];
    rest = ts;
    whole = refl;
    consists = tells ∙ sym (append-nil front);
    spells = refl;
    walks = h;
    shorter = omega arith;
  }
  reads_parts cs front (at_label behind) ts tells h =
      let r = reads_token cs (at_label behind) ts h in
      let u = r.token in
      subst (ReadsParts cs front) (sym r.whole)
      (label_case (λ x. Leads cs u r.rest x → ReadsParts cs front (u ∷ r.rest)) u behind
      (λ plain leads. one_more cs front (a_word u.text) u r.rest (plain, refl)
      (reads_parts cs (front ++ a_word u.text ∷ []) (behind u.text) r.rest (tells u.text) (goes_on cs u r.rest (behind u.text) leads)))
      (λ x. not_bad cs u r.rest BadToken x) r.leads)
  reads_parts cs front (at_rank behind) ts tells h =
      let r = reads_token cs (at_rank behind) ts h in
      let u = r.token in
      subst (ReadsParts cs front) (sym r.whole)
      (rank_case (λ x. Leads cs u r.rest x → ReadsParts cs front (u ∷ r.rest)) u behind
      (λ n is leads. one_more cs front (a_rank n) u r.rest (u.text, is, refl)
      (reads_parts cs (front ++ a_rank n ∷ []) (behind n) r.rest (tells n) (goes_on cs u r.rest (behind n) leads)))
      (λ kind x. not_bad cs u r.rest kind x) r.leads)
  reads_parts cs front (in_unit made p) ts tells h =
      let b = reads_unit l t (λ x. places.inner cs (in_unit made x)) (λ x. and_one places cs (made x))
      (has_units l t (places.inner cs) (and_one places cs) (asks.commands cs) made) final (λ x. apart.inner cs (in_unit made x)) ts
      (subst (λ x. Walks (places.inner cs (in_unit made x)) ts) tells.0 h) in
      last_one cs front (a_unit b.assertion) (made b.assertion) (spelling b.said.0) ts b.rest b.said.2 (tells.1 b.assertion)
      (b.said.0, b.said.1, refl) b.walks b.shorter
  reads_parts cs front (at_proof label made) ts tells h = reads_proof cs front label made ts tells h
  reads_parts cs front (in_proof label made steps) ts tells h = absurd tells

  -- ---- commands

  pub record ReadsCommand (cs : List Command) (ts : List Token) : Type 0 where
    pub command : Command
    pub words : List Word
    pub rest : List Token
    pub parts : words_of ts ≡ words ++ words_of rest
    pub spells : SpellsCommand t command words
    pub walks : Walks (and_one places cs command) rest
    pub shorter : length rest < length ts

  reads_command : (cs : List Command) (u : Token) (ts : List Token) → Leads cs u ts (command_word t u.text) → ReadsCommand cs (u ∷ ts)
  reads_command cs u ts h =
      verb_case (λ x. Leads cs u ts x → ReadsCommand cs (u ∷ ts)) t u.text
      (λ p plain tells leads.
      let o = reads_parts cs (a_word u.text ∷ []) p ts tells (goes_on cs u ts p leads) in
      let le : length o.rest ≤ length ts = o.shorter in
      let first : SpellsEach (SpellsPart t) (a_word u.text ∷ o.behind) (u.text ∷ o.words) =
      (u.text ∷ [], o.words, refl, (plain, refl), o.spells) in
      record {
        command = o.command;
        words = u.text ∷ o.words;
        rest = o.rest;
        parts = ap (λ ws. u.text ∷ ws) o.whole;
        spells = subst (λ ps. SpellsEach (SpellsPart t) ps (u.text ∷ o.words)) (sym o.consists) first;
        walks = o.walks;
        shorter = omega arith;
      })
      (λ x. not_bad cs u ts BadToken x) h

  -- commands up to commit, and a walk from behind it
  pub record ReadsCommands (cs : List Command) (ts : List Token) : Type 0 where
    pub commands : List Command
    pub words : List Word
    pub rest : List Token
    pub parts : words_of ts ≡ words ++ codes "commit" ∷ words_of rest
    pub spells : SpellsEach (SpellsCommand t) commands words
    pub walks : walk l (places.committed (cs ++ commands)) rest ≡ Ok final
    pub shorter : length rest < length ts

  pub reads_commands : (fuel : ℕ) (cs : List Command) (ts : List Token) → length ts < fuel → Walks (places.between cs) ts
      → ReadsCommands cs ts
  reads_commands zero cs ts lt h = absurd (omega arith)
  reads_commands (suc fuel) cs [] lt h = absurd (apart.between cs (walk_none l (places.between cs) final h))
  reads_commands (suc fuel) cs (u ∷ ts) lt h =
      let r = walk_cons l (places.between cs) final u ts h in
      elim (cases_Bool (bytes_eq u.text (codes "commit"))) [
        | inl y ↦
            let word = leads_to cs u (command_word t u.text) in
            let e = sym (cond-true (bytes_eq u.text (codes "commit")) (Ok (places.committed cs)) word y) ∙ sym (asks.words cs u) ∙ r.1 in
            let same : places.committed cs ≡ r.0 = cc in
            record {
              commands = [];
              words = [];
              rest = ts;
              parts = ap (λ w. w ∷ words_of ts) (same_word u.text (codes "commit") y);
              spells = refl;
              walks =
                  ap (λ x. walk l (places.committed x) ts) (append-nil cs)
                  ∙ subst (λ x. walk l x ts ≡ Ok final) (sym same) r.2;
              shorter = omega arith;
            }
        | inr n ↦
            let word = leads_to cs u (command_word t u.text) in
            let e = sym (cond-false (bytes_eq u.text (codes "commit")) (Ok (places.committed cs)) word n) ∙ sym (asks.words cs u) ∙ r.1 in
            let c = reads_command cs u ts (r.0, e, r.2) in
            let less : length c.rest < suc (length ts) = c.shorter in
            let others = reads_commands fuel (cs ++ c.command ∷ []) c.rest (omega arith) c.walks in
            record {
              commands = c.command ∷ others.commands;
              words = c.words ++ others.words;
              rest = others.rest;
              parts =
                  c.parts ∙ ap (λ ws. c.words ++ ws) others.parts
                  ∙ sym (append_assoc c.words others.words (codes "commit" ∷ words_of others.rest));
              spells = (c.words, others.words, refl, c.spells, others.spells);
              walks =
                  ap (λ x. walk l (places.committed x) others.rest)
                  (sym (append_assoc cs (c.command ∷ []) others.commands))
                  ∙ others.walks;
              shorter = let z : length others.rest < length c.rest = others.shorter in omega arith;
            }
      ]
