use Rattle.std.proofs.Common.{◌≡◌, ◌∙◌, ◌++◌, ℕ, List, ap, append_assoc, codes, string_bytes}
use Rattle.lab_landmarks.specs.Sizes.{directory_lengths, entry_counts, table_lengths}
use Rattle.lab_landmarks.specs.Tables.{landmarks_text, part_text}
use Rattle.lab_landmarks.proofs.tables.push_tables.Goals as goal

-- four texts behind another
four_texts : (old a b d e one two three now : List ℕ) → one ≡ old ++ a → two ≡ one ++ b → three ≡ two ++ d → now ≡ three ++ e → now ≡ old ++ (a ++ (b ++ (d ++ e)))
four_texts old a b d e one two three now first second third fourth =
    fourth ∙ ap (λ t. t ++ e) (third ∙ ap (λ t. t ++ d) (second ∙ ap (λ t. t ++ b) first))
    ∙ append_assoc (old ++ a ++ b) d e ∙ append_assoc (old ++ a) b (d ++ e) ∙ append_assoc old a (b ++ (d ++ e))

pub returns : goal.returns
returns c =
    let name = c.args.name.now in
    let scheme = c.args.scheme.now in
    four_texts (string_bytes c.args.text.now) (landmarks_text name scheme) (part_text name (codes "entries") (entry_counts scheme) (codes "entries"))
    (part_text name (codes "directory") (directory_lengths scheme) (codes "members")) (part_text name (codes "table") (table_lengths scheme) (codes "bytes"))
    (string_bytes c.push_landmarks.new.text) (string_bytes c.push_part.new.text) (string_bytes c.push_part-2.new.text) (string_bytes c.push_part-3.new.text)
    c.in_ok-push_landmarks.ensures
    (c.in_ok-push_part.ensures ∙ ap (λ xs. string_bytes c.push_landmarks.new.text ++ part_text name (codes "entries") xs (codes "entries")) (c.deref.ensures.value ∙ c.in_ok-entry_counts.ensures))
    (c.in_ok-push_part-2.ensures ∙ ap (λ xs. string_bytes c.push_part.new.text ++ part_text name (codes "directory") xs (codes "members")) (c.deref-2.ensures.value ∙ c.in_ok-directory_lengths.ensures))
    (c.in_ok-push_part-3.ensures ∙ ap (λ xs. string_bytes c.push_part-2.new.text ++ part_text name (codes "table") xs (codes "bytes")) (c.deref-3.ensures.value ∙ c.in_ok-table_lengths.ensures))
