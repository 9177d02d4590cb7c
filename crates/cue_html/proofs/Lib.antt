mod HtmlLemmas
