mod EditingLemmas
