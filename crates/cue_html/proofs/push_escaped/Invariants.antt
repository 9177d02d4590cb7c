use Rattle.std.proofs.Common.{length, string_bytes, ◌++◌}
use Rattle.std.specs.Str.{chars}
use Rattle.cue_html.specs.Html.{html_of}
use Rattle.cue_html.proofs.HtmlLemmas.{IsWay}
use Rattle.cue_html.proofs.push_escaped.Given as goal

-- what was put there, and what the characters that are left will put there, is all
abbrev pub invariant-loop-c : goal.invariant-loop-c
invariant-loop-c l =
    IsWay (length l.yielded) (chars l.text) (string_bytes l.page) (string_bytes l.fn.page ++ html_of l.text)
