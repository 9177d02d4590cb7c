mod PlanLemmas
