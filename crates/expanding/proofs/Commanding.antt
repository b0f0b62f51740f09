-- The commands of scripts: there is one way to cut words into parts, and one script more.
use Rattle.std.proofs.Common.{◌≡◌, ◌∙◌, ℕ, suc, ◌+◌, List, [], ◌∷◌, ◌++◌, length, map, drop}
use Rattle.std.proofs.Common.{refl, sym, ap, ap₂, subst, arith, append_assoc}
use Rattle.std.proofs.lemmas.List.{map-append, append-nil}
use Rattle.mmtext.specs.Text.{Token}
use Rattle.spreading.specs.Forms.{behind_word, Part, AreParts}
use Rattle.expanding.specs.Commands.{Command, command_of, AreCommands}

-- ---- one way

pub parts_same : (ps : List Part) (ts : List Token) (qs : List Part) → AreParts ts ps → AreParts ts qs → ps ≡ qs
parts_same [] [] [] h k = refl
parts_same [] [] (q ∷ qs) h k = absurd k
parts_same [] (t ∷ ts) qs h k = absurd cc
parts_same (p ∷ ps) [] qs h k = absurd h
parts_same (p ∷ ps) (t ∷ ts) [] h k = absurd cc
parts_same (p ∷ ps) (t ∷ ts) (q ∷ qs) h k =
    ap₂ (λ x xs. x ∷ xs) (h.0 ∙ sym k.0) (parts_same ps (drop (behind_word t ts) ts) qs h.1 k.1)

pub commands_same : (scripts : List (List Token)) (n : ℕ) (cs ds : List Command) → AreCommands n scripts cs → AreCommands n scripts ds
    → cs ≡ ds
commands_same [] n cs ds h k = h ∙ sym k
commands_same (ts ∷ scripts) n cs ds h k =
    h.4
    ∙ (ap₂ (λ ps rest. map (command_of n) ps ++ rest) (parts_same h.0 ts k.0 h.2 k.2) (commands_same scripts (suc n) h.1 k.1 h.3 k.3)
    ∙ sym k.4)

-- ---- one more

pub commands_more : (scripts : List (List Token)) (n k : ℕ) (cs : List Command) (ts : List Token) (ps : List Part) → k ≡ n + length scripts
    → AreCommands n scripts cs → AreParts ts ps → AreCommands n (scripts ++ ts ∷ []) (cs ++ map (command_of k) ps)
commands_more [] n k cs ts ps number h parts =
    let same : k ≡ n = omega arith in (
      ps,
      [],
      parts,
      refl,
      ap (λ ds. ds ++ map (command_of k) ps) h
          ∙ (ap (λ m. map (command_of m) ps) same ∙ sym (append-nil (map (command_of n) ps))),
    )
commands_more (us ∷ scripts) n k cs ts ps number h parts =
    let same : k ≡ suc n + length scripts = omega arith in (
      h.0,
      h.1 ++ map (command_of k) ps,
      h.2,
      commands_more scripts (suc n) k h.1 ts ps same h.3 parts,
      ap (λ ds. ds ++ map (command_of k) ps) h.4 ∙ append_assoc (map (command_of n) h.0) h.1 (map (command_of k) ps),
    )

-- ---- words

-- one part more
pub part_more : {A : Type 0} (view : A → Part) (ts : List Token) (parts : List A) (part : A) (ps : List Part)
    → AreParts ts (map view parts ++ (view part ∷ ps)) → AreParts ts (map view (parts ++ part ∷ []) ++ ps)
part_more view ts parts part ps h =
    subst (AreParts ts)
    (sym (ap (λ qs. qs ++ ps) (map-append view parts (part ∷ [])) ∙ append_assoc (map view parts) (view part ∷ []) ps)) h
