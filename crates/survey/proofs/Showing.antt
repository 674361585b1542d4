-- Columns that stand for moments, as moments are added and columns are joined.
use Rattle.std.proofs.Common.{List, [], ◌∷◌, ◌++◌, length, refl, sym, ap, ◌∙◌, subst, arith, append_assoc, append-nil}
use Rattle.survey.specs.declared.moment.Moment.{Moment}
use Rattle.survey.specs.declared.column.Column.{Column}
use Rattle.survey.specs.Column.{Gathers, joined}
use Rattle.survey.specs.Columns.{Shows, all_of, halved, joined_on}
use Rattle.survey.proofs.Gathering.{gathers_joined}

pub shows_halved : (cs : List Column) (ms : List Moment) → Shows cs ms → Shows (halved cs) ms
shows_halved [] ms shows = shows
shows_halved (c ∷ []) ms shows = shows
shows_halved (c ∷ d ∷ cs) ms shows =
    let next = shows.4 in (
      shows.0 ++ next.0,
      next.1,
      shows.2 ∙ ap (λ l. shows.0 ++ l) next.2 ∙ sym (append_assoc shows.0 next.0 next.1),
      gathers_joined c d shows.0 next.0 shows.3 next.3,
      shows_halved cs next.1 next.4,
    )

pub shows_push : (cs : List Column) (ms : List Moment) (c : Column) (m : Moment) → Gathers c (m ∷ []) → Shows cs ms → Shows (cs ++ c ∷ []) (ms ++ m ∷ [])
shows_push [] ms c m g shows = (m ∷ [], [], ap (λ l. l ++ m ∷ []) shows, g, refl)
shows_push (d ∷ cs) ms c m g shows = (
  shows.0,
  shows.1 ++ m ∷ [],
  ap (λ l. l ++ m ∷ []) shows.2 ∙ append_assoc shows.0 shows.1 (m ∷ []),
  shows.3,
  shows_push cs shows.1 c m g shows.4,
)

pub shows_extend : (cs : List Column) (last : Column) (ms : List Moment) (c : Column) (m : Moment) → Gathers c (m ∷ []) → Shows (cs ++ last ∷ []) ms → Shows (cs ++ joined last c ∷ []) (ms ++ m ∷ [])
shows_extend [] last ms c m g shows = (
  shows.0 ++ m ∷ [],
  [],
  ap (λ l. l ++ m ∷ []) (shows.2 ∙ ap (λ l. shows.0 ++ l) shows.4 ∙ append-nil shows.0) ∙ sym (append-nil (shows.0 ++ m ∷ [])),
  gathers_joined last c shows.0 (m ∷ []) shows.3 g,
  refl,
)
shows_extend (d ∷ cs) last ms c m g shows = (
  shows.0,
  shows.1 ++ m ∷ [],
  ap (λ l. l ++ m ∷ []) shows.2 ∙ append_assoc shows.0 shows.1 (m ∷ []),
  shows.3,
  shows_extend cs last shows.1 c m g shows.4,
)

-- where there is nothing more, they stay
pub shows_nothing : (cs : List Column) (ms : List Moment) → Shows cs ms → Shows cs (ms ++ [])
shows_nothing cs ms shows = subst (Shows cs) (sym (append-nil ms)) shows

gathers_on : (cs : List Column) (c : Column) (xs ys : List Moment) → Gathers c xs → Shows cs ys → Gathers (joined_on c cs) (xs ++ ys)
gathers_on [] c xs ys g shows = subst (Gathers c) (sym (ap (λ l. xs ++ l) shows ∙ append-nil xs)) g
gathers_on (d ∷ ds) c xs ys g shows =
    subst (Gathers (joined_on (joined c d) ds)) (append_assoc xs shows.0 shows.1 ∙ ap (λ l. xs ++ l) (sym shows.2))
    (gathers_on ds (joined c d) (xs ++ shows.0) shows.1 (gathers_joined c d xs shows.0 g shows.3) shows.4)

pub gathers_all : (cs : List Column) (m : Moment) (ms : List Moment) → Shows cs (m ∷ ms) → Gathers (all_of cs) (m ∷ ms)
gathers_all [] m ms shows = absurd (omega (arith, ap length shows))
gathers_all (c ∷ cs) m ms shows = subst (Gathers (joined_on c cs)) (sym shows.2) (gathers_on cs c shows.0 shows.1 shows.3 shows.4)
