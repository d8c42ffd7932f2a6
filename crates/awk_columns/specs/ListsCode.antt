-- Lists of one class as data that are told apart: a class, and a layout of lists.
use Rattle.std.specs.Prelude.{ℕ, Option, refl}
use Rattle.std.specs.Coded.{Coded, code_by, coded×, coded_option, coded_ℕ}
use Rattle.awk_lanes.specs.Column.{no_places}
use Rattle.awk_layout.specs.Layout.{Layout, lists}
use Rattle.awk_layout.specs.Code.{coded_layout}
use Rattle.awk_columns.specs.Lists.{Listed}

abbrev listed_from : Option ℕ → Layout → Listed
listed_from c (lists s t y) = record { class = c; starts = s; stops = t; content = y }
listed_from c y = record { class = c; starts = no_places; stops = no_places; content = y }

abbrev pub coded_listed : Coded Listed
coded_listed = code_by (Option ℕ × Layout) (coded× (coded_option coded_ℕ) coded_layout)
    (λ l. (l.class, lists l.starts l.stops l.content)) (λ p. listed_from p.0 p.1) (λ _. refl)
