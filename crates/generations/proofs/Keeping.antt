-- What a writer keeps, by what it has posted and all that it was given.
use Rattle.std.proofs.Common.{◌≡◌, List, [], ◌∷◌, ◌++◌, length, drop, Option, Some, None, refl, ap, sym, ◌∙◌, subst, append-nil}
use Rattle.generations.specs.declared.posting.Notice.{Notice}
use Rattle.generations.specs.Beginnings.{Beginning, Extends}
use Rattle.generations.specs.Notices.{notice_of}
use Rattle.generations.specs.Posts.{Posts, all_posted, with_posted, with_kept}
use Rattle.generations.specs.Writes.{posts_of, pending_of, HasPublisher}
use Rattle.generations.specs.Waits.{IsWaiting}
use Rattle.generations.specs.declared.replica.Update.{Update}
use Rattle.generations.specs.declared.writer.Publisher.{Publisher}
use Rattle.generations.specs.declared.writer.Waiting.{Waiting}
use Rattle.generations.specs.declared.writer.Waiting.TheVariants.{Nothing, Outside, Logged}

pub drop_front : {A : Type 0} (xs ys : List A) → drop (length xs) (xs ++ ys) ≡ ys
drop_front [] ys = refl
drop_front (x ∷ xs) ys = drop_front xs ys

pub drop_whole : {A : Type 0} (xs : List A) → drop (length xs) xs ≡ []
drop_whole [] = refl
drop_whole (x ∷ xs) = drop_whole xs

same_posts : (v w : Posts) → v.opening ≡ w.opening → v.posted ≡ w.posted → v.kept ≡ w.kept → v ≡ w
same_posts v w opening posted kept = λ i. record { opening = opening i; posted = posted i; kept = kept i }

-- the last posting is kept
pub keeps_one : (posted all : Beginning) (p : Notice) → Extends posted p all → drop (length posted.log) all.log ≡ p ∷ []
keeps_one posted all p ext = ap (drop (length posted.log)) ext.1 ∙ drop_front posted.log (p ∷ [])

-- all was posted
pub posts_all : (posted all : Beginning) (p : Notice) → Extends posted p all → posts_of all all ≡ all_posted (posts_of posted all)
posts_all posted all p ext = same_posts (posts_of all all) (all_posted (posts_of posted all)) ext.0 (ext.1 ∙ ap (λ l. posted.log ++ l) (sym (keeps_one posted all p ext))) (drop_whole all.log)

-- one posting more was posted
pub posts_more : (posted all : Beginning) (w : Posts) (p : Notice) → w ≡ posts_of posted posted → Extends posted p all → posts_of all all ≡ with_posted w p
posts_more posted all w p is ext = same_posts (posts_of all all) (with_posted w p) (ext.0 ∙ ap (λ (v : Posts). v.opening) (sym is)) (ext.1 ∙ ap (λ (v : Posts). v.posted ++ p ∷ []) (sym is)) (drop_whole all.log)

-- one posting more is kept
pub keeps_more : (posted all : Beginning) (w : Posts) (p : Notice) → w ≡ posts_of posted posted → Extends posted p all → posts_of posted all ≡ with_kept w p
keeps_more posted all w p is ext = same_posts (posts_of posted all) (with_kept w p) (ap (λ (v : Posts). v.opening) (sym is)) (ap (λ (v : Posts). v.posted) (sym is)) (keeps_one posted all p ext)

-- whatever waits, once it is posted all is
pub waits_posts : (posted all : Beginning) (pending : List Update) (waiting : Waiting) → IsWaiting posted all pending waiting → posts_of all all ≡ all_posted (posts_of posted all)
waits_posts posted all pending Nothing h =
    subst (λ (b : Beginning). posts_of b b ≡ all_posted (posts_of posted b)) (sym h.0)
    (same_posts (posts_of posted posted) (all_posted (posts_of posted posted)) refl (sym (ap (λ l. posted.log ++ l) (drop_whole posted.log) ∙ append-nil posted.log)) (drop_whole posted.log))
waits_posts posted all pending (Outside e) h = posts_all posted all (notice_of e.posting) h.0.0
waits_posts posted all pending Logged h = posts_all posted all (notice_of h.0.posting) h.1.0

pub has_posts : {R : Type 0} (posted all : Beginning) (waiting : Waiting) (o : Option (Publisher R)) → HasPublisher posted all waiting o → posts_of all all ≡ all_posted (posts_of posted all)
has_posts posted all waiting None h = absurd h
has_posts posted all waiting (Some p) h = waits_posts posted all (pending_of p) waiting h.1
