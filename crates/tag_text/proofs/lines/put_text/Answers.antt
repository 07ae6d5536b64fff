-- `tag_text::lines::put_text` meets its contract. Assumes nothing.
use Rattle.std.proofs.Common.{◌≡◌, ℕ, List, [], ◌∷◌, ap, arith}
use Rattle.laws.specs.Lent.{Stored}
use Rattle.laws.proofs.Stores.{stored-ext}
use Rattle.text.specs.Text.{line_of, refused_word}
use Rattle.tag_text.proofs.Texts.{given-text, refused-text}
use Rattle.tag_text.proofs.lines.put_text.Goals as goal

same : {l l' : List ℕ} {e : ℕ} (n m : ℕ) → n ≡ m → Stored 0 (line_of refused_word (n ∷ [])) l l' e
    → Stored 0 (line_of refused_word (m ∷ [])) l l' e
same n m is v =
    stored-ext (line_of refused_word (n ∷ [])) (line_of refused_word (m ∷ [])) (ap (λ (n : ℕ). line_of refused_word (n ∷ [])) is) v

pub returns-in-Ok : goal.returns-in-Ok
returns-in-Ok c =
    let t = c.put_tags.ensures in
    record {
      out = given-text _ _ c.in-Ok.is t.out;
      most = t.most;
    }

pub returns-in-Err : goal.returns-in-Err
returns-in-Err c =
    let t = c.put_refused.ensures in
    record {
      out = refused-text _ _ c.in-Err.is (same _ _ c.number.ensures t.out);
      most = omega (arith, t.most);
    }
