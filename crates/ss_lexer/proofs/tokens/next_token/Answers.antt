use Rattle.std.proofs.Common.{◌≡◌, ◌&&◌, ◌==◌, ◌+◌, drop, refl, sym, ◌∙◌, ap, subst, Bool, ℕ}
use Rattle.std.proofs.lemmas.List.{take_rest}
use Rattle.ss_lexer.specs.Tokens.{answer}
use Rattle.ss_lexer.proofs.TokenLemmas.{is_first}
use Rattle.ss_lexer.proofs.tokens.next_token.Goals as goal
use Rattle.ss_lexer.proofs.tokens.next_token.Goals.{then-behind_number, else-behind_number}

pub returns-clause-first : goal.returns-clause-first
returns-clause-first c =
    let k = c.blank_len-blanks.result in
    let n = c.blank_len-blanks.ensures.value in
    let behind : c.if-behind_number.token_at ≡ (c.args.behind_number && (k == 0)) = elim c.if-behind_number.branch [ then-behind_number w ↦ rw (w.token_at-is, w.if-behind_number.true) refl | else-behind_number w ↦ rw (w.token_at-is, w.if-behind_number.false) refl ] in
    let is : answer (c.args.behind_number && (k == 0)) (c.args.at + k) (drop k c.args.bytes.now) ≡ c.token_at.result =
    sym (c.token_at.ensures.value ∙ ap (answer c.if-behind_number.token_at (c.args.at + k)) (take_rest c.args.bytes.now k) ∙ ap (λ (b : Bool). answer b (c.args.at + k) (drop k c.args.bytes.now)) behind) in
    is_first c.args.behind_number c.args.at c.args.bytes.now c.token_at.result (subst (λ (m : ℕ). answer (c.args.behind_number && (m == 0)) (c.args.at + m) (drop m c.args.bytes.now) ≡ c.token_at.result) n is)
