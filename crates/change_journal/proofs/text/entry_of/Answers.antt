use Rattle.std.proofs.Common.{◌≡◌, ◌++◌, [], ◌∷◌, ℕ, List, refl, ap, ◌∙◌}
use Rattle.change_journal.proofs.text.entry_of.Goals as goal

pub returns-clause-entry : goal.returns-clause-entry
returns-clause-entry c =
    let b = c.bytes_of.ensures in
    let text = c.args.text.now in
    let first : c.extend_from_slice.new.self.items ≡ b.0 ∷ b.1 ∷ b.2 ∷ b.3 ∷ [] =
    c.in_ok-extend_from_slice.ensures.items ∙ ap (λ (xs : List ℕ). xs ++ c.bytes_of.result) c.new-entry.ensures.items ∙ b.4 in
    let both : c.extend_from_slice-2.new.self.items ≡ b.0 ∷ b.1 ∷ b.2 ∷ b.3 ∷ text =
    c.in_ok-extend_from_slice-2.ensures.items ∙ ap (λ (xs : List ℕ). xs ++ text) first in
    λ group means. (
      b.0 ∷ b.1 ∷ b.2 ∷ b.3 ∷ text,
      c.in_ok-push.ensures.items ∙ ap (λ (xs : List ℕ). xs ++ 0 ∷ []) both,
      record { a = b.0; b = b.1; c = b.2; d = b.3; text = text; bytes = refl; size = b.5; means = means },
    )
